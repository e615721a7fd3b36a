-- The bytes so far have their steps.
use Rattle.std.proofs.Common.{◌≡◌, ℕ, ◌<◌, length, get_or}
use Rattle.unicode_tables.specs.FirstBytes.{len_from}
use Rattle.unicode_tables.proofs.steps.Steps.over_all.Given as goal

abbrev pub invariant-loop-byte : goal.invariant-loop-byte
invariant-loop-byte l = record {
  bytes : length l.steps ≡ 256;
  so_far : (b : ℕ) → b < l.byte → get_or l.steps b 0 ≡ len_from b;
}
