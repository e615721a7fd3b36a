-- What stays true in the loop of `walk_into`.
use Rattle.std.proofs.Common.{◌≡◌, ◌<◌, ◌-◌, ◌++◌, length, All}
use Rattle.reorder.specs.Links.{walk}
use Rattle.reorder.proofs.links.walk_into.Given as goal

abbrev pub invariant-loop : goal.invariant-loop
invariant-loop l = record {
  walked : l.order.items ++ walk (length l.links - l.counter) l.links l.at ≡ walk (length l.links) l.links l.first;
  within : All (λ at. at < length l.links) (walk (length l.links - l.counter) l.links l.at);
}
