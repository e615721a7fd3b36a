-- What holds of the levels of each sequence and of the paragraph level holds of all resolved levels.
use Rattle.std.proofs.Common.{arith, ℕ, suc, ◌≡◌, refl, ap, ◌∙◌, List, [], ◌∷◌, length, replicate, Option, Some, None}
use Rattle.std.specs.Prelude.{slice_set}
use Rattle.std.specs.List.{All}
use Rattle.std.proofs.lemmas.List.{length-set, length-replicate}
use Rattle.std.proofs.lemmas.List.Elements.{All-nil, All-cons, All-head, All-tail, All-same, All-set, All-replicate}
use Rattle.unicode_tables.specs.Tables.{TableValues}
use Rattle.bidi_explicit.specs.declared.kept.Kept.{Kept}
use Rattle.bidi_explicit.specs.Embedding.{Embedding}
use Rattle.bidi_explicit.specs.Sequences.{RunSequence}
use Rattle.bidi_weak_neutral.specs.Levels.{levels_at, kept_levels, sequence_levels, put_back, resolved_levels}
use Rattle.bidi_weak_neutral.proofs.Scan.{scan}
use Rattle.bidi_weak_neutral.proofs.Filling.{fill_at, fill_step, filled_levels-is}

module _ (P : ℕ → Type 0) where
  levels_at-all : (levels places new : List ℕ) → All P levels → All P new → All P (levels_at levels places new)
  levels_at-all levels [] new a b = a
  levels_at-all levels (i ∷ is) [] a b = a
  levels_at-all levels (i ∷ is) (l ∷ ls) a b =
      levels_at-all (slice_set levels i l) is ls (All-set P levels i l (All-head P l ls b) a) (All-tail P l ls b)

  put_back-all : (tables : TableValues) (points : List ℕ) (places : List (Option Kept)) (levels : List ℕ) (ss : List RunSequence)
      → All P levels → All (λ s. All P (sequence_levels tables points places s)) ss → All P (put_back tables points places levels ss)
  put_back-all tables points places levels [] a b = a
  put_back-all tables points places levels (s ∷ ss) a b =
      let new = sequence_levels tables points places s in
      put_back-all tables points places (levels_at levels s.places new) ss
      (levels_at-all levels s.places new a (All-head (λ s. All P (sequence_levels tables points places s)) s ss b))
      (All-tail (λ s. All P (sequence_levels tables points places s)) s ss b)

  filled-all : (before : ℕ) (places : List (Option Kept)) (levels : List ℕ) → P before → All P levels
      → All P (scan fill_at fill_step before (kept_levels places levels))
  filled-all before [] levels h a = All-nil P
  filled-all before (p ∷ ps) [] h a = All-nil P
  filled-all before (Some k ∷ ps) (l ∷ ls) h a =
      let here = All-head P l ls a in All-cons P l _ here (filled-all l ps ls here (All-tail P l ls a))
  filled-all before (None ∷ ps) (l ∷ ls) h a = All-cons P before _ h (filled-all before ps ls h (All-tail P l ls a))

  pub resolved_levels-all : (tables : TableValues) (points : List ℕ) (e : Embedding) → P e.level
      → All (λ s. All P (sequence_levels tables points e.places s)) e.sequences → All P (resolved_levels tables points e)
  resolved_levels-all tables points e h all =
      let start = replicate (length points) e.level in
      let put = put_back tables points e.places start e.sequences in
      All-same P _ _ (filled_levels-is e.level (kept_levels e.places put))
      (filled-all e.level e.places put h (put_back-all tables points e.places start e.sequences (All-replicate P (length points) e.level h) all))

-- one level a code point
pub length-levels_at : (levels places new : List ℕ) → length (levels_at levels places new) ≡ length levels
length-levels_at levels [] new = refl
length-levels_at levels (i ∷ is) [] = refl
length-levels_at levels (i ∷ is) (l ∷ ls) = length-levels_at (slice_set levels i l) is ls ∙ length-set levels i l

length-put_back : (tables : TableValues) (points : List ℕ) (places : List (Option Kept)) (levels : List ℕ) (ss : List RunSequence)
    → length (put_back tables points places levels ss) ≡ length levels
length-put_back tables points places levels [] = refl
length-put_back tables points places levels (s ∷ ss) =
    length-put_back tables points places (levels_at levels s.places (sequence_levels tables points places s)) ss
    ∙ length-levels_at levels s.places (sequence_levels tables points places s)

length-filled : (before : ℕ) (places : List (Option Kept)) (levels : List ℕ) → length levels ≡ length places
    → length (scan fill_at fill_step before (kept_levels places levels)) ≡ length levels
length-filled before [] [] n = refl
length-filled before [] (l ∷ ls) n = absurd (omega arith)
length-filled before (p ∷ ps) [] n = refl
length-filled before (Some k ∷ ps) (l ∷ ls) n = ap suc (length-filled l ps ls (omega arith))
length-filled before (None ∷ ps) (l ∷ ls) n = ap suc (length-filled before ps ls (omega arith))

pub length-resolved_levels : (tables : TableValues) (points : List ℕ) (e : Embedding) → length e.places ≡ length points
    → length (resolved_levels tables points e) ≡ length points
length-resolved_levels tables points e n =
    let start = replicate (length points) e.level in
    let put = put_back tables points e.places start e.sequences in
    let same : length put ≡ length points = length-put_back tables points e.places start e.sequences ∙ length-replicate (length points) e.level in
    ap length (filled_levels-is e.level (kept_levels e.places put)) ∙ length-filled e.level e.places put (omega arith) ∙ same
