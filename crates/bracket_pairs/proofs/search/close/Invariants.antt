-- What stays true in the loop of `close`.
use Rattle.std.proofs.Common.{◌≡◌, ◌≤◌, length, take, reverse}
use Rattle.bracket_pairs.specs.Found.{closed_by}
use Rattle.bracket_pairs.proofs.search.close.Given as goal

-- what does not wait for it is passed by
abbrev pub invariant-loop-k : goal.invariant-loop-k
invariant-loop-k l =
    (l.stack.items ≡ l.fn.stack.items) × (l.k ≤ length l.stack.items) × (closed_by l.c (reverse (take l.k l.stack.items)) ≡ closed_by l.c (reverse l.stack.items))
