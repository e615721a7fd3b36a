-- No rows are left of what was.
use Rattle.std.proofs.Common.{subst}
use Rattle.live_document.specs.Cost.{AreForgotten}
use Rattle.live_document.specs.Documents.{LiveDocument, paragraphs_of}
use Rattle.live_document.proofs.Cost.{forgotten-all}
use Rattle.live_document.proofs.Followed.{live-turned}
use Rattle.live_document.proofs.document.Document.set_base.Goals as goal

pub invariant_of-self : goal.invariant_of-self
invariant_of-self c =
    let i = c.self.inside in
    let f = c.forget_rows in
    live-turned i.desk i.tables.value i.width i.base i.behind i.buffer f.new.buffer i.shown i.held i.width c.args.base c.self.invariant c.self.invariant.kept_at.at_least c.self.invariant.kept_at.at_most f.ensures.paragraphs
    (f.ensures.none i.tables.value i.width c.args.base) f.ensures.held

pub returns-clause-forgotten : goal.returns-clause-forgotten
returns-clause-forgotten c =
    let i = c.self.inside in
    let f = c.forget_rows in
    subst (λ (d : LiveDocument). AreForgotten d.paragraphs (paragraphs_of i.behind i.tables.value i.desk.set f.new.buffer)) c.self.view_is
    (forgotten-all i.behind i.tables.value i.desk.set i.buffer f.new.buffer f.ensures.bare)
