-- What stays true in the loop of `put_letters`.
use Rattle.std.proofs.Common.{ℕ, ◌≡◌, ◌<◌, ◌-◌, ◌++◌, length, get_or, take, replicate, true}
use Rattle.bg_types.specs.declared.class.Bidi.TheVariants.{L}
use Rattle.bidi_weak_neutral.specs.Pass.{goes_on}
use Rattle.bidi_weak_neutral.proofs.weak.put_letters.Given as goal

abbrev pub invariant-loop-end : goal.invariant-loop-end
invariant-loop-end l = record {
  long : length l.types ≡ length l.before;
  letters : (k : ℕ) → l.start < k → k < l.end → goes_on l.class (get_or l.before k L) ≡ true;
  put : take l.end l.types ≡ take l.start l.fn.types ++ replicate (l.end - l.start) l.letter;
}
