-- What stays true in the loop of `set_bracket`.
use Rattle.std.proofs.Common.{ℕ, ◌≡◌, ◌<◌, ◌≤◌, ◌++◌, take, drop, true, get_or}
use Rattle.bg_types.specs.declared.class.Bidi.TheVariants.{On}
use Rattle.bracket_pairs.specs.N0.{is_nonspacing, marks_set, bracket_set}
use Rattle.bracket_pairs.proofs.n0.set_bracket.Given as goal

abbrev pub invariant-loop-mark : goal.invariant-loop-mark
invariant-loop-mark l = record {
  set : take l.mark l.types ++ marks_set l.class (drop l.mark l.before_w1) (drop l.mark l.types) ≡ bracket_set l.class l.before_w1 l.fn.types l.place;
  marks : (k : ℕ) → l.place < k → k < l.mark → is_nonspacing (get_or l.before_w1 k On) ≡ true;
  same : (k : ℕ) → l.place ≤ k → k < l.mark → get_or l.types k On ≡ l.class;
}
