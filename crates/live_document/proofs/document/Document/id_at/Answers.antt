-- The desk is the same.
use Rattle.std.proofs.Common.{ap}
use Rattle.desk_replica.specs.Desk.{Desk}
use Rattle.live_document.proofs.Followed.{live-alike}
use Rattle.live_document.proofs.document.Document.id_at.Goals as goal

pub invariant_of-self : goal.invariant_of-self
invariant_of-self c =
    let i = c.self.inside in
    live-alike i.desk c.id_at.new.self i.tables.value i.width i.base i.behind i.buffer i.shown i.held c.self.invariant (ap (λ (d : Desk). d.set) c.id_at.ensures.unchanged)
