-- What weighs that is kept.
use Rattle.std.proofs.Common.{◌≡◌, ℕ, ◌+◌, ◌<◌, ◌≤◌, Option, None, Some, List, [], ◌∷◌, ◌++◌, cond, length, take, drop, get_or, map, refl, ap, ◌∙◌, arith}
use Rattle.std.proofs.lemmas.List.{take_more}
use Rattle.std.proofs.lemmas.List.Sums.{sum_by-cons, sum_by_push, sum_by-append, sum_by-take-le}
use Rattle.std.specs.Option.{option_map_or}
use Rattle.std.specs.Prelude.{is_some}
use Rattle.text_buffer.specs.declared.piece.Piece.{Piece}
use Rattle.text_buffer.specs.Buffers.{KeptParagraph, kept_weight}
use Rattle.text_buffer.specs.Pieces.{seen, kept_count, weight_of, weight_in}
use Rattle.text_buffer.specs.Blocks.{joined}
use Rattle.text_buffer.proofs.Joins.{joined-at, joined-more}

module _ {K : Type 0} (weight : K → ℕ) where
  -- with one more
  pub weight-more : (ps : List (Piece K)) (i : ℕ) (p : Piece K) → i < length ps → get_or ps i p ≡ p
      → weight_in weight (take (i + 1) ps) ≡ weight_in weight (take i ps) + weight_of weight p
  weight-more ps i p within is = ap (weight_in weight) (take_more ps i p within ∙ ap (λ x. take i ps ++ x ∷ []) is) ∙ sum_by_push (weight_of weight) (take i ps) p

  pub weight-front : (ps : List (Piece K)) (i : ℕ) → weight_in weight (take i ps) ≤ weight_in weight ps
  weight-front ps i = sum_by-take-le (weight_of weight) ps i

  pub rows-more : (rows : List (List (Piece K))) (q : ℕ) → q < length rows
      → weight_in weight (joined (take (q + 1) rows)) ≡ weight_in weight (joined (take q rows)) + weight_in weight (get_or rows q [])
  rows-more rows q within = ap (weight_in weight) (joined-more rows q within) ∙ sum_by-append (weight_of weight) (joined (take q rows)) (get_or rows q [])

  pub rows-few : (rows : List (List (Piece K))) (q : ℕ) → q < length rows
      → weight_in weight (joined (take q rows)) + weight_in weight (get_or rows q []) ≤ weight_in weight (joined rows)
  rows-few rows q within =
      let a = ap (weight_in weight) (joined-at rows q within) in
      let b = sum_by-append (weight_of weight) (joined (take q rows)) (get_or rows q [] ++ joined (drop (q + 1) rows)) in
      let d = sum_by-append (weight_of weight) (get_or rows q []) (joined (drop (q + 1) rows)) in
      omega (arith, a, b, d)

  -- where nothing is kept nothing weighs
  none-of : (k : Option K) → cond {A = ℕ} (is_some k) 1 0 ≡ 0 → option_map_or weight k 0 ≡ 0
  none-of None none = refl
  none-of (Some k) none = absurd (omega (arith, none))

  pub weight-none : (ps : List (Piece K)) → kept_count ps ≡ 0 → weight_in weight ps ≡ 0
  weight-none [] none = refl
  weight-none (p ∷ ps) none =
      let e = sum_by-cons (λ (q : Piece K). cond {A = ℕ} (is_some q.kept) 1 0) p ps in
      let f = sum_by-cons (weight_of weight) p ps in
      let own = none-of p.kept (omega (arith, e, none)) in
      let later = weight-none ps (omega (arith, e, none)) in
      omega (arith, f, own, later)

  -- what a buffer is seen as weighs as much
  pub weight-seen : (ps : List (Piece K)) → kept_weight weight (map seen ps) ≡ weight_in weight ps
  weight-seen [] = refl
  weight-seen (p ∷ ps) =
      let e = sum_by-cons (weight_of weight) p ps in
      let f = sum_by-cons (λ (q : KeptParagraph K). option_map_or weight q.kept 0) (seen p) (map seen ps) in
      let later = weight-seen ps in
      omega (arith, e, f, later)
