-- The paragraphs follow the desk's text, or are behind it.
use Rattle.std.proofs.Common.{[], ◌∷◌, ap, subst}
use Rattle.unicode_tables.specs.Tables.{TableValues}
use Rattle.desk_replica.specs.Typing.{typed, IsTypedAt}
use Rattle.live_document.specs.Documents.{LiveDocument}
use Rattle.live_document.specs.Keeping.{StaysKept}
use Rattle.live_document.proofs.Cost.{keeps-others}
use Rattle.live_document.proofs.Followed.{live-followed}
use Rattle.live_document.proofs.document.Document.type_char.Goals as goal

pub invariant_of-self-2 : goal.invariant_of-self-2
invariant_of-self-2 c =
    let i = c.self.inside in
    let f = c.follow_typed-self-inside in
    live-followed i.desk c.type_char.new.self i.tables.value i.width i.base i.behind f.result i.buffer f.new.buffer i.shown i.held c.args.place c.args.place (c.args.ch ∷ [])
    c.self.invariant (subst (λ (tables : TableValues). StaysKept tables i.buffer f.new.buffer) c.deref.ensures f.ensures.kept) f.ensures.held f.ensures.before f.ensures.text c.in_ok-op.ensures.typed.text_is

pub returns-clause-typed : goal.returns-clause-typed
returns-clause-typed c =
    subst (λ (d : LiveDocument). IsTypedAt d.desk.set c.type_char.new.self.set c.args.place (typed d.desk.set d.desk.site c.args.place c.args.ch)) c.self.view_is
    c.in_ok-op.ensures.typed

pub returns-clause-kept : goal.returns-clause-kept
returns-clause-kept c =
    let i = c.self.inside in
    let f = c.follow_typed-self-inside in
    keeps-others i.tables.value i.desk.set c.type_char.new.self.set i.buffer f.new.buffer c.args.self.now.paragraphs i.behind f.result c.args.place c.args.place (ap (λ (d : LiveDocument). d.paragraphs) c.self.view_is)
    f.ensures.before f.ensures.touched
