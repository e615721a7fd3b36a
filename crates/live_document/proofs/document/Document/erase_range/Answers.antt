-- The paragraphs follow the desk's text, or are behind it.
use Rattle.std.proofs.Common.{[], ap, subst, ◌∙◌}
use Rattle.std.proofs.lemmas.Str.{chars-nil}
use Rattle.unicode_tables.specs.Tables.{TableValues}
use Rattle.text_buffer.specs.Buffers.{text_in}
use Rattle.text_buffer.specs.Edits.{replaced}
use Rattle.live_document.specs.Keeping.{StaysKept}
use Rattle.live_document.specs.Documents.{LiveDocument}
use Rattle.live_document.proofs.Cost.{keeps-others}
use Rattle.live_document.proofs.Followed.{live-followed}
use Rattle.live_document.proofs.document.Document.erase_range.Goals as goal

pub invariant_of-self-2 : goal.invariant_of-self-2
invariant_of-self-2 c =
    let i = c.self.inside in
    let f = c.follow-self-inside in
    live-followed i.desk c.erase_range.new.self i.tables.value i.width i.base i.behind f.result i.buffer f.new.buffer i.shown i.held c.args.from c.args.to []
    c.self.invariant (subst (λ (tables : TableValues). StaysKept tables i.buffer f.new.buffer) c.deref.ensures f.ensures.kept) f.ensures.held f.ensures.before (λ made. f.ensures.text made ∙ ap (replaced (text_in i.buffer) c.args.from c.args.to) chars-nil) c.in_ok-erase_range.ensures.erased

pub returns-clause-kept : goal.returns-clause-kept
returns-clause-kept c =
    let i = c.self.inside in
    let f = c.follow-self-inside in
    keeps-others i.tables.value i.desk.set c.erase_range.new.self.set i.buffer f.new.buffer c.args.self.now.paragraphs i.behind f.result c.args.from c.args.to (ap (λ (d : LiveDocument). d.paragraphs) c.self.view_is)
    f.ensures.before f.ensures.touched
