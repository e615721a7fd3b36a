-- The cuts of a text, found from the front.
use Rattle.std.proofs.Common.{◌≡◌, ℕ, ◌+◌, ◌-◌, ◌≤◌, cond, List, [], ◌∷◌, filter, length, drop, get_or, refl, sym, ap, ap₂, ◌∙◌, arith}
use Rattle.std.proofs.lemmas.List.{drop-drop, get_or-drop, length-drop}
use Rattle.std.specs.List.{range_with_len}
use Rattle.bg_types.specs.declared.class.Bidi.{Bidi}
use Rattle.paragraphs.specs.Paragraphs.{ends_paragraph, is_cut, cuts}

-- the cuts in the rest of a text, which begins at `place`
abbrev pub cuts_from : (ℕ → Bidi) → ℕ → List ℕ → List ℕ
cuts_from class place [] = []
cuts_from class place (c ∷ rest) = cond (ends_paragraph class c rest) ((place + 1) ∷ cuts_from class (place + 1) rest) (cuts_from class (place + 1) rest)

-- a step over one code point
pub drop-step : (points rest : List ℕ) (place c : ℕ) → drop place points ≡ c ∷ rest → drop (place + 1) points ≡ rest
drop-step points rest place c e = sym (drop-drop 1 place points) ∙ ap (drop 1) e

pub step-le : (points rest : List ℕ) (place c : ℕ) → drop place points ≡ c ∷ rest → place + 1 ≤ length points
step-le points rest place c e = let n = ap length e in omega (arith, length-drop place points)

at-step : (points rest : List ℕ) (place c : ℕ) → drop place points ≡ c ∷ rest → get_or points (place + 1 - 1) 0 ≡ c
at-step points rest place c e =
    let same : place + 1 - 1 ≡ place + 0 = omega arith in
    ap (λ n. get_or points n 0) same ∙ sym (get_or-drop place points 0 0) ∙ ap (λ t. get_or t 0 0) e

module _ (class : ℕ → Bidi) (points : List ℕ) where
  is_cut-step : (rest : List ℕ) (place c : ℕ) → drop place points ≡ c ∷ rest → is_cut class points (place + 1) ≡ ends_paragraph class c rest
  is_cut-step rest place c e = ap₂ (ends_paragraph class) (at-step points rest place c e) (drop-step points rest place c e)

  cuts_from-filter : (rest : List ℕ) (place : ℕ) → drop place points ≡ rest → filter (is_cut class points) (range_with_len (place + 1) (length rest)) ≡ cuts_from class place rest
  cuts_from-filter [] place e = refl
  cuts_from-filter (c ∷ rest) place e =
      ap₂ (λ b later. cond b ((place + 1) ∷ later) later) (is_cut-step rest place c e) (cuts_from-filter rest (place + 1) (drop-step points rest place c e))

  pub cuts-is : cuts class points ≡ cuts_from class 0 points
  cuts-is = cuts_from-filter points 0 refl
