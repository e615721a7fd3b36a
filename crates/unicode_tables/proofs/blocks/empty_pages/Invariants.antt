-- What stays true in the loop of `empty_pages`.
use Rattle.std.proofs.Common.{◌≡◌, vec_len}
use Rattle.unicode_tables.proofs.blocks.empty_pages.Given as goal

abbrev pub invariant-loop : goal.invariant-loop
invariant-loop g l = vec_len l.pages ≡ l.counter
