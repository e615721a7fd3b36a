-- Where it could not be told the paragraphs are behind.
use Rattle.std.proofs.Common.{inl, refl}
use Rattle.live_document.proofs.Followed.{live-behind}
use Rattle.live_document.proofs.Cost.{bare-behind}
use Rattle.live_document.proofs.document.Document.take.Goals as goal

pub invariant_of-self-in-Err : goal.invariant_of-self-in-Err
invariant_of-self-in-Err c =
    let i = c.self-2.inside in
    live-behind c.take.new.self i.tables.value i.width i.base i.buffer i.held c.self-2.invariant.kept_at c.self-2.invariant.held_is c.self-2.invariant.held_few

pub returns-clause-kept : goal.returns-clause-kept
returns-clause-kept c = let i = c.self-2.inside in inl (refl, bare-behind i.tables.value c.take.new.self.set i.buffer)
