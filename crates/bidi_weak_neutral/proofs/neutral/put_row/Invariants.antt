-- What stays true in the loop of `put_row`.
use Rattle.std.proofs.Common.{ℕ, ◌≡◌, ◌<◌, ◌≤◌, ◌-◌, ◌++◌, length, get_or, take, replicate}
use Rattle.bg_types.specs.declared.class.Bidi.TheVariants.{L}
use Rattle.bidi_weak_neutral.proofs.neutral.put_row.Given as goal

abbrev pub invariant-loop-end : goal.invariant-loop-end
invariant-loop-end l = record {
  long : length l.levels ≡ length l.types;
  from : l.start < l.end;
  within : l.end ≤ length l.types;
  row : (k : ℕ) → l.start < k → k < l.end → get_or l.types k L ≡ l.class;
  put : take l.end l.levels ≡ take l.start l.fn.levels ++ replicate (l.end - l.start) l.level;
}

abbrev pub decreases-loop-end : goal.decreases-loop-end
decreases-loop-end l = length l.types - l.end
