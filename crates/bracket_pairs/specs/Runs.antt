-- A bracket with the marks after it, as the code remembers them.
use Rattle.std.specs.Prelude.{ℕ, ◌≡◌, ◌<◌, ◌≤◌, true, false, List, length, slice_index_or}
use Rattle.bg_types.specs.declared.class.Bidi.{Bidi}
use Rattle.bg_types.specs.declared.class.Bidi.TheVariants.{On}
use Rattle.bracket_pairs.specs.declared.n0.Run.{Run}
use Rattle.bracket_pairs.specs.N0.{is_nonspacing}

-- all places of a run have its type; after the first come the marks, and no mark comes after the last
pub record IsRun (before_w1 types : List Bidi) (r : Run) : Type 0 where
  pub within : r.end ≤ length types
  pub marks : (k : ℕ) → r.start < k → k < r.end → is_nonspacing (slice_index_or before_w1 k On) ≡ true
  pub same : (k : ℕ) → r.start ≤ k → k < r.end → slice_index_or types k On ≡ r.class
  pub ended : r.end < length types → is_nonspacing (slice_index_or before_w1 r.end On) ≡ false

-- a bracket there has this type, and the marks after it too
pub record Has (r : Run) (place : ℕ) (class : Bidi) : Type 0 where
  pub from : r.start ≤ place
  pub to : place < r.end
  pub of : r.class ≡ class
