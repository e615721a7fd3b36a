-- What was kept stays, where not too many rows are.
use Rattle.std.proofs.Common.{◌≡◌, ℕ, ◌+◌, ◌-◌, ◌<◌, ◌≤◌, inl, inr, Bool, true, false, Option, Some, None, List, [], ◌∷◌, ◌++◌, length, get_or, take, drop, slice_range, refl, sym, ap, subst, ◌∙◌, arith}
use Rattle.std.proofs.lemmas.Bool.{cases_lt}
use Rattle.std.proofs.lemmas.List.{length-map, length-drop, take_all}
use Rattle.std.proofs.lemmas.List.Edits.{split_between}
use Rattle.std.proofs.lemmas.List.Elements.{All-take, All-drop, All-head, All-tail}
use Rattle.std.proofs.lemmas.List.Sums.{sum_by-append}
use Rattle.std.specs.List.{All}
use Rattle.std.specs.Option.{option_map_or}
use Rattle.std.specs.Prelude.{is_some, IfSome}
use Rattle.bg_types.specs.declared.class.Base.{Base}
use Rattle.unicode_tables.specs.Tables.{TableValues}
use Rattle.text_buffer.specs.Buffers.{KeptParagraph, paragraphs_in}
use Rattle.live_document.specs.Keeping.{Rows, KeptText, rows_of_text, rows_weight, weight_held, held_outside, IsLaid, IsMarked, flags, is_kept}
use Rattle.live_document.proofs.Beside.{own_held, held-cons}
use Rattle.live_document.proofs.Marks.{slice-agrees}
use Rattle.live_document.proofs.Placing.{slice-map}

abbrev points_of : KeptParagraph Rows → List ℕ
points_of p = p.points

abbrev flag_of : KeptParagraph Rows → Bool
flag_of p = is_some p.kept

-- a stretch, and what stands before it and behind it
pub held-parts : (kept : KeptText) (from to : ℕ) → from ≤ to → weight_held kept ≡ held_outside kept from to + weight_held (slice_range kept from to)
held-parts kept from to order =
    let all = ap weight_held (split_between kept from to order) in
    let a = sum_by-append own_held (take from kept) (slice_range kept from to ++ drop to kept) in
    let b = sum_by-append own_held (slice_range kept from to) (drop to kept) in
    omega (arith, all, a, b)

module _ (tables : TableValues) (width : ℕ) (base : Base) where
  beside-alike : (o n : Option Rows) (points : List ℕ) → is_some n ≡ is_some o → IfSome o (λ (rows : Rows). rows ≡ rows_of_text tables width base points)
      → IfSome n (λ (rows : Rows). rows ≡ rows_of_text tables width base points)
      → rows_weight (option_map_or (λ (rows : Rows). rows) n []) ≡ rows_weight (option_map_or (λ (rows : Rows). rows) o [])
  beside-alike None None points same was is = refl
  beside-alike None (Some rows) points same was is = cc
  beside-alike (Some rows) None points same was is = cc
  beside-alike (Some old) (Some new) points same was is = ap rows_weight (is ∙ sym was)

  -- of the same paragraphs as many rows are kept, where they are of the same ones
  pub held-alike : (old new : KeptText) → paragraphs_in new ≡ paragraphs_in old → flags new ≡ flags old → All (IsLaid tables width base) old → All (IsLaid tables width base) new
      → weight_held new ≡ weight_held old
  held-alike [] [] points marks was is = refl
  held-alike [] (q ∷ new) points marks was is = cc
  held-alike (p ∷ old) [] points marks was is = cc
  held-alike (p ∷ old) (q ∷ new) points marks was is =
      let own = beside-alike p.kept q.kept p.points (ap (λ l. get_or l 0 false) marks) (All-head (IsLaid tables width base) p old was)
      (subst (λ ps. IfSome q.kept (λ (rows : Rows). rows ≡ rows_of_text tables width base ps)) (ap (λ l. get_or l 0 []) points) (All-head (IsLaid tables width base) q new is)) in
      let later = held-alike old new (ap (drop 1) points) (ap (drop 1) marks) (All-tail (IsLaid tables width base) p old was) (All-tail (IsLaid tables width base) q new is) in
      omega (arith, held-cons p old, held-cons q new, own, later)

  -- so in a stretch in which the same ones are kept
  pub held-stretch : (old new : KeptText) (from to : ℕ) → to ≤ length old → paragraphs_in new ≡ paragraphs_in old → ((k : ℕ) → from ≤ k → k < to → is_kept (flags new) k ≡ is_kept (flags old) k)
      → All (IsLaid tables width base) old → All (IsLaid tables width base) new → weight_held (slice_range new from to) ≡ weight_held (slice_range old from to)
  held-stretch old new from to within points same was is =
      let n = length-map old flag_of in
      let m = length-map new flag_of in
      let a = length-map old points_of in
      let b = length-map new points_of in
      let e = ap length points in
      let size : length (flags new) ≡ length (flags old) = omega (arith, n, m, a, b, e) in
      held-alike (slice_range old from to) (slice_range new from to)
      (sym (slice-map points_of new from to) ∙ ap (λ ts. slice_range ts from to) points ∙ slice-map points_of old from to)
      (sym (slice-map flag_of new from to) ∙ slice-agrees (flags new) (flags old) from to size (omega (arith, within, n)) same ∙ slice-map flag_of old from to)
      (All-take (IsLaid tables width base) (to - from) (drop from old) (All-drop (IsLaid tables width base) from old was))
      (All-take (IsLaid tables width base) (to - from) (drop from new) (All-drop (IsLaid tables width base) from new is))

-- those of the front, and those from a number on, are stretches
front-is : (kept : KeptText) (n : ℕ) → slice_range kept 0 n ≡ take n kept
front-is kept n = (let same : n - 0 ≡ n = omega arith in ap (λ m. take m kept) same)

back-is : (kept : KeptText) (n size : ℕ) → length kept ≤ size → slice_range kept n size ≡ drop n kept
back-is kept n size all = let left = length-drop n kept in take_all (size - n) (drop n kept) (omega (arith, left))

-- a stretch is laid out, and then others are forgotten, or none where not too many rows are kept
module _ (tables : TableValues) (width : ℕ) (base : Base) (old made new : KeptText) (first end allowed : ℕ) (order : first ≤ end) (within : end ≤ length old)
    (points : paragraphs_in made ≡ paragraphs_in old) (later : paragraphs_in new ≡ paragraphs_in made) (marked : IsMarked (flags old) first end (flags made))
    (inside : (k : ℕ) → first ≤ k → k < end → is_kept (flags new) k ≡ is_kept (flags made) k) (stays : weight_held made ≤ allowed → new ≡ made)
    (was : All (IsLaid tables width base) old) (then : All (IsLaid tables width base) made) (is : All (IsLaid tables width base) new) where
  size : length made ≡ length old
  size = let a = length-map old points_of in let b = length-map made points_of in let e = ap length points in omega (arith, a, b, e)

  front-same : weight_held (take first made) ≡ weight_held (take first old)
  front-same =
      ap weight_held (sym (front-is made first))
      ∙ held-stretch tables width base old made 0 first (omega (arith, order, within)) points (λ k low high. marked.outside k (inl high)) was then
      ∙ ap weight_held (front-is old first)

  back-same : weight_held (drop end made) ≡ weight_held (drop end old)
  back-same =
      ap weight_held (sym (back-is made end (length old) (omega (arith, size))))
      ∙ held-stretch tables width base old made end (length old) (omega arith) points (λ k low high. marked.outside k (inr low)) was then
      ∙ ap weight_held (back-is old end (length old) (omega arith))

  kept-made : (k : ℕ) → is_kept (flags old) k ≡ true → is_kept (flags made) k ≡ true
  kept-made k there = elim (cases_lt k first) [
    | inl front ↦ marked.outside k (inl front) ∙ there
    | inr low ↦ (elim (cases_lt k end) [
      | inl high ↦ marked.inside k low high
      | inr back ↦ marked.outside k (inr back) ∙ there
    ])
  ]

  pub kept-stays : held_outside old first end + weight_held (slice_range new first end) ≤ allowed → (k : ℕ) → is_kept (flags old) k ≡ true → is_kept (flags new) k ≡ true
  kept-stays fits k there =
      let own = held-stretch tables width base made new first end (omega (arith, within, size)) later inside then is in
      let same = stays (omega (arith, held-parts made first end order, front-same, back-same, own, fits)) in
      ap (λ kept. is_kept (flags kept) k) same ∙ kept-made k there
