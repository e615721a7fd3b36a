-- The goals of `new` that are answered by hand.
use Rattle.std.proofs.Common.{refl}
use Rattle.bg_types.proofs.keyed.Keyed.new.Goals as goal

pub returns : goal.returns
returns c = refl
