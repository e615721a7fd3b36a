-- Without memory for what is told the paragraphs are behind.
use Rattle.std.proofs.Common.{inl, refl, subst}
use Rattle.std.specs.Prelude.{IfErr}
use Rattle.desk_replica.specs.Merging.{IsMergeRefused}
use Rattle.live_document.specs.Documents.{LiveDocument}
use Rattle.live_document.proofs.Followed.{live-behind}
use Rattle.live_document.proofs.Cost.{bare-behind}
use Rattle.live_document.proofs.document.Document.merge.Goals as goal

pub invariant_of-self : goal.invariant_of-self
invariant_of-self c =
    let i = c.self.inside in
    live-behind c.merge.new.self i.tables.value i.width i.base i.buffer i.held c.self.invariant.kept_at c.self.invariant.held_is c.self.invariant.held_few

pub returns-then-is_err-clause-kept : goal.returns-then-is_err-clause-kept
returns-then-is_err-clause-kept c = let i = c.self.inside in inl (refl, bare-behind i.tables.value c.merge.new.self.set i.buffer)

pub returns-then-is_err-clause-fault : goal.returns-then-is_err-clause-fault
returns-then-is_err-clause-fault c =
    subst (λ (d : LiveDocument). IfErr c.merge.result (IsMergeRefused d.desk.set c.args.other.now.set c.merge.new.self.set)) c.self.view_is c.merge.ensures.fault
