-- No separator has been passed.
use Rattle.std.proofs.Common.{ℕ, ◌≡◌, ◌<◌, ◌≤◌, get_or, false}
use Rattle.bg_types.specs.declared.class.Bidi.TheVariants.{L}
use Rattle.reorder.specs.LineLevels.{is_separator}
use Rattle.reorder.proofs.line.pass_blocks.Given as goal

abbrev pub invariant-loop-start : goal.invariant-loop-start
invariant-loop-start l = record {
  within : l.start ≤ l.fn.end;
  passed : (k : ℕ) → l.start ≤ k → k < l.fn.end → is_separator (get_or l.classes k L) ≡ false;
}

abbrev pub decreases-loop-start : goal.decreases-loop-start
decreases-loop-start l = l.start
