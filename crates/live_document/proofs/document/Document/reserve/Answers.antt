-- The operations are the same.
use Rattle.live_document.proofs.Followed.{live-alike}
use Rattle.live_document.proofs.document.Document.reserve.Goals as goal

pub invariant_of-self : goal.invariant_of-self
invariant_of-self c =
    let i = c.self.inside in
    live-alike i.desk c.reserve.new.self i.tables.value i.width i.base i.behind i.buffer i.shown i.held c.self.invariant c.reserve.ensures.set
