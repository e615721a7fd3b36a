-- The paragraphs follow the desk's text, or are behind it.
use Rattle.std.proofs.Common.{◌-◌, chars, ap, subst}
use Rattle.std.specs.List.{All}
use Rattle.bg_types.specs.WellFormed.{IsWellFormed}
use Rattle.desk_replica.specs.Replacement.{replacement}
use Rattle.unicode_tables.specs.Tables.{TableValues}
use Rattle.live_document.specs.Keeping.{StaysKept}
use Rattle.live_document.specs.Documents.{LiveDocument}
use Rattle.live_document.proofs.Cost.{keeps-others}
use Rattle.live_document.proofs.Followed.{live-followed}
use Rattle.live_document.proofs.document.Document.replace.Goals as goal

pub invariant_of-self-2 : goal.invariant_of-self-2
invariant_of-self-2 c =
    let i = c.self.inside in
    let f = c.follow-self-inside in
    live-followed i.desk c.replace.new.self i.tables.value i.width i.base i.behind f.result i.buffer f.new.buffer i.shown i.held c.args.from c.args.to (chars c.args.characters.now)
    c.self.invariant (subst (λ (tables : TableValues). StaysKept tables i.buffer f.new.buffer) c.deref.ensures f.ensures.kept) f.ensures.held f.ensures.before f.ensures.text c.in_ok-replace.ensures.replaced

pub returns-clause-kept : goal.returns-clause-kept
returns-clause-kept c =
    let i = c.self.inside in
    let f = c.follow-self-inside in
    keeps-others i.tables.value i.desk.set c.replace.new.self.set i.buffer f.new.buffer c.args.self.now.paragraphs i.behind f.result c.args.from c.args.to (ap (λ (d : LiveDocument). d.paragraphs) c.self.view_is)
    f.ensures.before f.ensures.touched

pub returns-clause-well_formed : goal.returns-clause-well_formed
returns-clause-well_formed c =
    subst (λ (d : LiveDocument). All IsWellFormed (replacement d.desk.set d.desk.site c.args.from (c.args.to - c.args.from) (chars c.args.characters.now))) c.self.view_is c.in_ok-replace.ensures.well_formed
