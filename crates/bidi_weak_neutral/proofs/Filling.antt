-- The levels of removed places, as a scan.
use Rattle.std.proofs.Common.{arith, ℕ, ◌+◌, ◌<◌, ◌≡◌, refl, ap, sym, ◌∙◌, List, [], ◌∷◌, ◌++◌, take, drop, set, length, get_or, true, false, Option, Some, None}
use Rattle.std.specs.Prelude.{is_some, unwrap_or}
use Rattle.std.proofs.lemmas.Bool.{false≢true, true≢false}
use Rattle.std.proofs.lemmas.List.{drop_more, take_more, take_more_set, drop-set-lt, append_assoc}
use Rattle.bidi_explicit.specs.declared.kept.Kept.{Kept}
use Rattle.bidi_weak_neutral.specs.Context.{nearest}
use Rattle.bidi_weak_neutral.specs.Levels.{kept_level, kept_levels, filled_levels}
use Rattle.bidi_weak_neutral.proofs.Scan.{scan, in_context_from-scan}

abbrev pub fill_step : ℕ → Option ℕ → ℕ
fill_step before level = unwrap_or level before

abbrev pub fill_at : ℕ → Option ℕ → List (Option ℕ) → ℕ
fill_at before level after = unwrap_or level before

reads : (p : ℕ) (before : List (Option ℕ)) (x : Option ℕ) → unwrap_or (nearest is_some None (x ∷ before)) p ≡ unwrap_or x (unwrap_or (nearest is_some None before) p)
reads p before (Some l) = refl
reads p before None = refl

pub filled_levels-is : (p : ℕ) (levels : List (Option ℕ)) → filled_levels p levels ≡ scan fill_at fill_step p levels
filled_levels-is p levels =
    in_context_from-scan _ (λ before. unwrap_or (nearest is_some None before) p) fill_at fill_step (λ b x a. reads p b x) (λ b x. reads p b x) [] levels

-- a place that is kept, and one that isn't, before the rest
kept-first : (p : Option Kept) (l before : ℕ) (rest : List (Option ℕ)) → is_some p ≡ true
    → l ∷ scan fill_at fill_step l rest ≡ scan fill_at fill_step before (kept_level p l ∷ rest)
kept-first (Some k) l before rest e = refl
kept-first None l before rest e = absurd (false≢true e)

removed-first : (p : Option Kept) (l before : ℕ) (rest : List (Option ℕ)) → is_some p ≡ false
    → before ∷ scan fill_at fill_step before rest ≡ scan fill_at fill_step before (kept_level p l ∷ rest)
removed-first None l before rest e = refl
removed-first (Some k) l before rest e = absurd (true≢false e)

module _ (places : List (Option Kept)) (levels whole : List ℕ) (i before : ℕ) (in_places : i < length places) (in_levels : i < length levels) where
  here : (d : Option Kept) → kept_levels (drop i places) (drop i levels)
      ≡ kept_level (get_or places i d) (get_or levels i 0) ∷ kept_levels (drop (i + 1) places) (drop (i + 1) levels)
  here d =
      ap (λ p. kept_levels p (drop i levels)) (drop_more places i d in_places)
      ∙ ap (kept_levels (get_or places i d ∷ drop (i + 1) places)) (drop_more levels i 0 in_levels)

  pub fill-kept : (d : Option Kept) → is_some (get_or places i d) ≡ true
      → take i levels ++ scan fill_at fill_step before (kept_levels (drop i places) (drop i levels)) ≡ whole
      → take (i + 1) levels ++ scan fill_at fill_step (get_or levels i 0) (kept_levels (drop (i + 1) places) (drop (i + 1) levels)) ≡ whole
  fill-kept d kept so_far =
      let rest = kept_levels (drop (i + 1) places) (drop (i + 1) levels) in
      let l = get_or levels i 0 in
      ap (λ t. t ++ scan fill_at fill_step l rest) (take_more levels i 0 in_levels)
      ∙ append_assoc (take i levels) (l ∷ []) (scan fill_at fill_step l rest)
      ∙ ap (λ t. take i levels ++ t) (kept-first (get_or places i d) l before rest kept)
      ∙ ap (λ t. take i levels ++ scan fill_at fill_step before t) (sym (here d))
      ∙ so_far

  pub fill-removed : (d : Option Kept) → is_some (get_or places i d) ≡ false
      → take i levels ++ scan fill_at fill_step before (kept_levels (drop i places) (drop i levels)) ≡ whole
      → take (i + 1) (set levels i before) ++ scan fill_at fill_step before (kept_levels (drop (i + 1) places) (drop (i + 1) (set levels i before))) ≡ whole
  fill-removed d removed so_far =
      let rest = kept_levels (drop (i + 1) places) (drop (i + 1) levels) in
      let l = get_or levels i 0 in
      ap (λ t. t ++ scan fill_at fill_step before (kept_levels (drop (i + 1) places) (drop (i + 1) (set levels i before)))) (take_more_set levels i before in_levels)
      ∙ ap (λ t. (take i levels ++ before ∷ []) ++ scan fill_at fill_step before (kept_levels (drop (i + 1) places) t)) (drop-set-lt (i + 1) levels i before (omega arith))
      ∙ append_assoc (take i levels) (before ∷ []) (scan fill_at fill_step before rest)
      ∙ ap (λ t. take i levels ++ t) (removed-first (get_or places i d) l before rest removed)
      ∙ ap (λ t. take i levels ++ scan fill_at fill_step before t) (sym (here d))
      ∙ so_far
