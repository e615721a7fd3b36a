-- The links between places, by the controls.
use Rattle.std.specs.Prelude.{ℕ, ◌≡◌, ◌<◌, Bool, true, false, List, length, slice_get, Option, Some, None}
use Rattle.bidi_explicit.specs.declared.controls.Control.{Control}
use Rattle.bidi_explicit.specs.declared.kind.Kind.{Kind}
use Rattle.bidi_explicit.specs.declared.kind.Kind.TheVariants.{Initiator}
use Rattle.bidi_explicit.specs.declared.kept.Kept.{Kept}
use Rattle.bidi_explicit.specs.Sequences.{next_by, is_kept}

abbrev pub pdi_at : List Control → ℕ → Option ℕ
pdi_at controls i = elim (slice_get controls i) [ Some c ↦ c.pdi | None ↦ None ]

-- the place after i in its sequence
abbrev pub linked : List Control → List (Option Kept) → ℕ → Option ℕ
linked controls places i = next_by places (pdi_at controls i) i

abbrev pub opens : Kind → Option ℕ → Bool
opens (Initiator odd) None = true
opens _ _ = false

-- an initiator that no PDI matches
abbrev pub is_unclosed : Control → Bool
is_unclosed c = opens c.kind c.pdi

abbrev pub is_unclosed_at : List Control → ℕ → Bool
is_unclosed_at controls i = elim (slice_get controls i) [ Some c ↦ is_unclosed c | None ↦ false ]

-- a PDI stands after its initiator, in the list
abbrev pub AreMatched : List Control → Type 0
AreMatched controls = (i j : ℕ) → pdi_at controls i ≡ Some j → (i < j) × (j < length controls)

-- and it is kept
abbrev pub AreKept : List Control → List (Option Kept) → Type 0
AreKept controls places = (i j : ℕ) → pdi_at controls i ≡ Some j → is_kept places j ≡ true
