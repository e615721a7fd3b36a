-- The goals of `new` that are answered by hand.
use Rattle.std.proofs.Common.{[], refl, sym, ap, subst, None}
use Rattle.op_codec.specs.declared.fault.Cause.TheVariants.{Truncated}
use Rattle.op_codec.specs.Fault.{header_cause}
use Rattle.op_codec.specs.Feed.{StandsAfter}
use Rattle.op_codec.proofs.Streams.{stands_so}
use Rattle.op_codec.proofs.stream.Stream.new.Goals as goal

pub returns : goal.returns
returns c = subst (λ kept. StandsAfter (record { position = None; kept = kept }) [] []) (sym c.new.ensures) (stands_so None [] [] (refl, (Truncated, refl)))

pub invariant_of-result : goal.invariant_of-result
invariant_of-result c = (Truncated, ap header_cause c.new.ensures)
