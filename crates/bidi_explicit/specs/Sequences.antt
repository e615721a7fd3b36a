-- RunSequences: the isolating run sequences, longest chains of `next` (UAX #9, BD13 and X10).
use Rattle.std.specs.Prelude.{ℕ, zero, suc, ◌%◌, ◌==◌, nat_le, not, ◌&&◌, Bool, false, List, [], ◌∷◌, map, filter, length, drop, slice_get, is_some, Option, Some, None, if◌then◌else◌}
use Rattle.std.specs.List.{list_any, range_with_len}
use Rattle.bg_types.specs.declared.class.Bidi.{Bidi}
use Rattle.bg_types.specs.declared.class.Bidi.TheVariants.{L, R}
use Rattle.bidi_explicit.specs.Nesting.{is_initiator, matched, matching}
use Rattle.bidi_explicit.specs.declared.kept.Kept.{Kept}

-- what is kept at a place
abbrev pub kept_at : List (Option Kept) → ℕ → Option Kept
kept_at places i = elim (slice_get places i) [ Some place ↦ place | None ↦ None ]

abbrev pub is_kept : List (Option Kept) → ℕ → Bool
is_kept places i = is_some (kept_at places i)

-- the first kept place of a list whose first place is i
abbrev pub kept_from : ℕ → List (Option Kept) → Option ℕ
kept_from i [] = None
kept_from i (Some k ∷ rest) = Some i
kept_from i (None ∷ rest) = kept_from (suc i) rest

-- the first kept place after i
abbrev pub kept_after : List (Option Kept) → ℕ → Option ℕ
kept_after places i = kept_from (suc i) (drop (suc i) places)

-- the last kept place before i
abbrev pub kept_before : List (Option Kept) → ℕ → Option ℕ
kept_before places zero = None
kept_before places (suc i) = if is_kept places i then Some i else kept_before places i

abbrev pub same_level : Option Kept → Option Kept → Bool
same_level (Some a) (Some b) = a.level == b.level
same_level _ _ = false

-- a kept place has the level of another, which may be missing
abbrev pub has_level_of : List (Option Kept) → ℕ → Option ℕ → Bool
has_level_of places i (Some j) = same_level (kept_at places i) (kept_at places j)
has_level_of places i None = false

-- this PDI, if the kept place before it has another level than the PDI
abbrev pub over_isolate : List (Option Kept) → Option ℕ → Option ℕ
over_isolate places None = None
over_isolate places (Some j) = if has_level_of places j (kept_before places j) then None else Some j

-- the place after a kept place i in its sequence, where this PDI matches i: the next kept one, if it has i's level, else the PDI
abbrev pub next_by : List (Option Kept) → Option ℕ → ℕ → Option ℕ
next_by places pdi i =
    if is_kept places i then
    (if has_level_of places i (kept_after places i) then kept_after places i else over_isolate places pdi)
    else None

abbrev pub next : List Bidi → List (Option Kept) → ℕ → Option ℕ
next cs places i = next_by places (matching cs i) i

-- a chain of `following` from place i, of at most n places
abbrev pub chain : (ℕ → Option ℕ) → ℕ → ℕ → List ℕ
chain following zero i = []
chain following (suc n) i = i ∷ elim (following i) [ Some j ↦ chain following n j | None ↦ [] ]

abbrev pub is_place : ℕ → Option ℕ → Bool
is_place i (Some j) = i == j
is_place i None = false

-- the numbers below n
abbrev pub below : ℕ → List ℕ
below n = range_with_len 0 n

-- place i follows one of the places below n
abbrev pub follows : (ℕ → Option ℕ) → ℕ → ℕ → Bool
follows following n i = list_any (λ j. is_place i (following j)) (below n)

-- a kept place that follows none begins a sequence
abbrev pub begins : (ℕ → Option ℕ) → List (Option Kept) → ℕ → Bool
begins following places i = is_kept places i && not (follows following (length places) i)

-- the direction of the higher of two levels
abbrev pub direction_between : ℕ → ℕ → Bidi
direction_between a b = if (if nat_le a b then b else a) % 2 == 1 then R else L

-- the level of a kept place, or the paragraph's level p where there is none
abbrev pub level_or : ℕ → List (Option Kept) → Option ℕ → ℕ
level_or p places None = p
level_or p places (Some i) = elim (kept_at places i) [ Some k ↦ k.level | None ↦ p ]

-- an initiator that no PDI matches
abbrev pub is_unmatched : List Bidi → ℕ → Bool
is_unmatched cs i =
    elim (slice_get cs i) [ Some c ↦ is_initiator c && not (is_some (matched i c (drop (suc i) cs))) | None ↦ false ]

-- the last of a list, or i where it is empty
abbrev pub last_or : ℕ → List ℕ → ℕ
last_or i [] = i
last_or i (j ∷ js) = last_or j js

-- a sequence: its places in rising order, its level, and the directions at its two ends
pub record RunSequence : Type 0 where
  pub places : List ℕ
  pub level : ℕ
  pub sos : Bidi
  pub eos : Bidi

-- sos compares the level with that of the kept place before the first
abbrev pub sos_of : ℕ → List (Option Kept) → ℕ → Bidi
sos_of p places first =
    direction_between (level_or p places (Some first)) (level_or p places (kept_before places first))

-- eos compares the level with that of the kept place after the last, or with p if the last is an unmatched initiator
abbrev pub eos_of : ℕ → Bool → List (Option Kept) → ℕ → Bidi
eos_of p unmatched places last =
    direction_between (level_or p places (Some last)) (if unmatched then p else level_or p places (kept_after places last))

-- the sequence that begins at a place
abbrev pub sequence_from : ℕ → (ℕ → Option ℕ) → (ℕ → Bool) → List (Option Kept) → ℕ → RunSequence
sequence_from p following unmatched places first =
    let chained = chain following (length places) first in
    let last = last_or first chained in
    record {
      places = chained;
      level = level_or p places (Some first);
      sos = sos_of p places first;
      eos = eos_of p (unmatched last) places last;
    }

-- the longest chains, in the order of their first places
abbrev pub chains : ℕ → (ℕ → Option ℕ) → (ℕ → Bool) → List (Option Kept) → List RunSequence
chains p following unmatched places =
    map (sequence_from p following unmatched places) (filter (begins following places) (below (length places)))

-- the sequences of a paragraph of level p
abbrev pub sequences_of : ℕ → List Bidi → List (Option Kept) → List RunSequence
sequences_of p cs places = chains p (next cs places) (is_unmatched cs) places
