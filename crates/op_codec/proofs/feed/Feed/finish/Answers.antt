-- The goals of `finish` that are answered by hand.
use Rattle.std.proofs.Common.{List, ℕ, subst, arith}
use Rattle.op_codec.specs.Spelling.{Spells}
use Rattle.op_codec.specs.Fault.{TellsFault}
use Rattle.op_codec.proofs.Feeds.{position_counted}
use Rattle.op_codec.proofs.Streams.{stands_so}
use Rattle.op_codec.proofs.feed.Feed.finish.Goals as goal

pub finish-requires : goal.finish-requires
finish-requires c =
    let old = c.self.inside in
    record { few = position_counted old.stream.position old.ops.items old.stream.kept _ c.self.invariant (omega (arith, old.ops.ok.0, old.ops.ok.1, old.ops.small)) }

pub returns-in-Ok-clause-ok : goal.returns-in-Ok-clause-ok
returns-in-Ok-clause-ok c =
    let old = c.self.inside in
    subst (λ (s : List ℕ). Spells s old.ops.items) c.self.view_is (c.in-Ok.ensures.ok _ old.ops.items (stands_so old.stream.position old.ops.items old.stream.kept c.self.invariant))

pub returns-in-Err-clause-fault : goal.returns-in-Err-clause-fault
returns-in-Err-clause-fault c =
    let old = c.self.inside in
    subst (λ (s : List ℕ). TellsFault s c.in-Err.fault) c.self.view_is (c.in-Err.ensures.fault _ old.ops.items (stands_so old.stream.position old.ops.items old.stream.kept c.self.invariant))
