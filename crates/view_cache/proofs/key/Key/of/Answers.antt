-- The goals of `of` that are answered by hand.
use Rattle.std.proofs.Common.{ap}
use Rattle.view_cache.specs.Keys.{paragraph_key}
use Rattle.view_cache.proofs.key.Key.of.Goals as goal

pub returns-clause-says : goal.returns-clause-says
returns-clause-says c = ap (λ t. paragraph_key t c.args.width c.args.base) c.in_ok-from_str.ensures.ok
