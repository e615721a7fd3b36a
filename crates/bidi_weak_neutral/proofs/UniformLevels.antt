-- The levels of a paragraph without controls: its places are one sequence, and all are kept.
use Rattle.std.proofs.Common.{arith, ℕ, zero, suc, ◌+◌, ◌≡◌, refl, ap, ap₂, sym, ◌∙◌, List, [], ◌∷◌, map, length, replicate, false}
use Rattle.std.specs.Prelude.{slice_index}
use Rattle.std.specs.List.{list_any, range_with_len}
use Rattle.std.proofs.lemmas.List.{length-replicate, nil_from_length}
use Rattle.bg_types.specs.declared.class.Bidi.{Bidi}
use Rattle.unicode_tables.specs.Tables.{TableValues}
use Rattle.bidi_explicit.specs.Embedding.{embedding_at}
use Rattle.bidi_explicit.specs.Sequences.{kept_at, below, direction_between}
use Rattle.bidi_explicit.specs.Uniform.{is_control, kept_at_level, one_sequence}
use Rattle.bidi_explicit.proofs.Interface.{embedding-uniform}
use Rattle.bracket_pairs.specs.N0.{n0}
use Rattle.bidi_weak_neutral.specs.Weak.{weak_types}
use Rattle.bidi_weak_neutral.specs.Neutral.{n1, n2, implicit_level}
use Rattle.bidi_weak_neutral.specs.Levels.{type_of, kept_levels, levels_at, resolved_levels}
use Rattle.bidi_weak_neutral.specs.Uniform.{uniform_levels}
use Rattle.bidi_weak_neutral.proofs.Scan.{scan}
use Rattle.bidi_weak_neutral.proofs.Filling.{fill_at, fill_step, filled_levels-is}
use Rattle.bidi_weak_neutral.proofs.AllLevels.{length-levels_at}
use Rattle.bidi_weak_neutral.proofs.RunPlaces.{levels-whole}

map-shift : {A : Type 0} (f : ℕ → A) (k j n : ℕ) → j ≡ suc k → map f (range_with_len j n) ≡ map (λ i. f (suc i)) (range_with_len k n)
map-shift f k j zero e = refl
map-shift f k j (suc n) e = ap₂ (λ x xs. x ∷ xs) (ap f e) (map-shift f (k + 1) (j + 1) n (omega arith))

-- the types at all places
types-below : (level : ℕ) (cs : List Bidi) → map (λ i. type_of (kept_at (map (kept_at_level level) cs) i)) (below (length cs)) ≡ cs
types-below level [] = refl
types-below level (c ∷ cs) =
    ap (λ t. c ∷ t) (map-shift (λ i. type_of (kept_at (map (kept_at_level level) (c ∷ cs)) i)) 0 1 (length cs) refl ∙ types-below level cs)

-- the characters at all places
points-below : (points : List ℕ) → map (slice_index points) (below (length points)) ≡ points
points-below [] = refl
points-below (p ∷ points) = ap (λ t. p ∷ t) (map-shift (slice_index (p ∷ points)) 0 1 (length points) refl ∙ points-below points)

-- no level is missing
filled-kept : (level before : ℕ) (cs : List Bidi) (levels : List ℕ) → length levels ≡ length cs
    → scan fill_at fill_step before (kept_levels (map (kept_at_level level) cs) levels) ≡ levels
filled-kept level before [] [] n = refl
filled-kept level before [] (l ∷ ls) n = absurd (omega arith)
filled-kept level before (c ∷ cs) [] n = absurd (omega arith)
filled-kept level before (c ∷ cs) (l ∷ ls) n = ap (λ t. l ∷ t) (filled-kept level l cs ls (omega arith))

module _ (tables : TableValues) (level : ℕ) where
  -- what the rules make of it, with its one sequence put back
  put : (points : List ℕ) (cs : List Bidi) → length points ≡ length cs → length (uniform_levels tables level points cs) ≡ length cs
      → resolved_levels tables points (record { level = level; places = map (kept_at_level level) cs; sequences = one_sequence level (length cs) })
      ≡ uniform_levels tables level points cs
  put [] [] n long = sym (nil_from_length (uniform_levels tables level [] []) long)
  put (p ∷ points) [] n long = absurd (omega arith)
  put [] (c ∷ cs) n long = absurd (omega arith)
  put (p ∷ ps) (c ∷ cs) n long =
      let points = p ∷ ps in
      let classes = c ∷ cs in
      let d = direction_between level level in
      let made = λ (chars : List ℕ) (before : List Bidi). levels_at (replicate (length points) level) (below (length classes))
      (map (implicit_level level) (n2 level (n1 d d (n0 tables level d chars before (weak_types d before))))) in
      let chars : map (slice_index points) (below (length classes)) ≡ points = ap (λ k. map (slice_index points) (below k)) (sym n) ∙ points-below points in
      let before = map (λ i. type_of (kept_at (map (kept_at_level level) classes) i)) (below (length classes)) in
      let levels = made (map (slice_index points) (below (length classes))) before in
      let all : length levels ≡ length classes =
      length-levels_at (replicate (length points) level) (below (length classes)) _ ∙ length-replicate (length points) level ∙ n in
      filled_levels-is level (kept_levels (map (kept_at_level level) classes) levels) ∙ filled-kept level level classes levels all
      ∙ ap (λ x. made x before) chars ∙ ap (made points) (types-below level classes)
      ∙ levels-whole (replicate (length points) level) (uniform_levels tables level points classes) (length classes) (length-replicate (length points) level ∙ n) long

  pub uniform-resolved : (points : List ℕ) (cs : List Bidi) → list_any is_control cs ≡ false → length points ≡ length cs
      → length (uniform_levels tables level points cs) ≡ length cs
      → uniform_levels tables level points cs ≡ resolved_levels tables points (embedding_at level cs)
  uniform-resolved points cs h n long = sym (put points cs n long) ∙ ap (resolved_levels tables points) (embedding-uniform level cs h)
