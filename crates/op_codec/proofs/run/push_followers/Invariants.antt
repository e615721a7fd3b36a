-- What stays true in the loop of `push_followers`.
use Rattle.std.proofs.Common.{◌≡◌, ◌+◌, ◌++◌, length, take}
use Rattle.std.specs.List.{AllByRecursion}
use Rattle.std.specs.Char.{IsScalar}
use Rattle.op_codec.specs.Spelling.{followers}
use Rattle.op_codec.specs.Fault.{characters_in}
use Rattle.op_codec.proofs.run.push_followers.Given as goal

abbrev pub invariant-loop-rest : goal.invariant-loop-rest
invariant-loop-rest l = record {
  pushed : l.ops.items ++ followers l.last (characters_in l.rest) ≡ l.fn.ops.items ++ followers l.fn.id (characters_in l.further);
  counter : l.last.counter + length (characters_in l.rest) ≡ l.fn.id.counter + length (characters_in l.further);
  site : l.last.site ≡ l.fn.id.site;
  scalars : AllByRecursion IsScalar (characters_in l.rest);
  grown : take (length l.fn.ops.items) l.ops.items ≡ l.fn.ops.items;
}

abbrev pub decreases-loop-rest : goal.decreases-loop-rest
decreases-loop-rest l = length l.rest
