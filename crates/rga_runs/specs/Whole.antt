-- The parts of all blocks together are the elements.
use Rattle.std.proofs.Common.{◌≡◌, ℕ, zero, suc, ◌<◌, ◌≤◌, List, [], ◌∷◌, ◌++◌, length, get_or, refl, sym, ap, ◌∙◌, arith}
use Rattle.std.proofs.lemmas.List.{length-map, map-append}
use Rattle.std.proofs.lemmas.List.Concat.{flat_map-append}
use Rattle.std.specs.List.{flat_map}
use Rattle.rga_tree.specs.declared.element.Element.{Element}
use Rattle.rga_tree.specs.Spot.{joined}
use Rattle.rga_runs.specs.declared.stretch.Stretch.{Stretch}
use Rattle.rga_runs.specs.declared.block.Block.{Block}
use Rattle.rga_runs.specs.Stretches.{elements_of, parts_in, elements_in}
use Rattle.rga_runs.specs.Blocks.{row_of}
use Rattle.rga_runs.specs.BlockRows.{items_of}
use Rattle.rga_runs.specs.Filled.{filled_to, filled}

nothing_joined : (n : ℕ) → joined (filled_to n []) ≡ []
nothing_joined zero = refl
nothing_joined (suc n) = nothing_joined n

joined-filled : (n : ℕ) (xs : List (List Element)) → length xs ≤ n → joined (filled_to n xs) ≡ joined xs
joined-filled n [] few = nothing_joined n
joined-filled zero (x ∷ xs) few = absurd (omega (arith, few))
joined-filled (suc n) (x ∷ xs) few = ap (λ r. x ++ r) (joined-filled n xs (omega (arith, few)))

pub few_items : (bs : List Block) (c : ℕ) → c < length (items_of bs) → length (get_or (items_of bs) c []) ≤ 256
few_items [] c there = absurd (omega (arith, there))
few_items (b ∷ bs) zero there = let few = b.few in omega (arith, few, b.stretches.ok)
few_items (b ∷ bs) (suc c) there = few_items bs c (omega (arith, there))

joined_parts : (chars : List ℕ) (xs : List (List Stretch)) → ((c : ℕ) → c < length xs → length (get_or xs c []) ≤ 256) → joined (filled chars xs) ≡ elements_in chars (row_of xs)
joined_parts chars [] few = refl
joined_parts chars (x ∷ xs) few =
    let ps = parts_in chars x in
    flat_map-append (λ (l : List Element). l) (filled_to 256 ps) (filled chars xs)
    ∙ (λ i. joined-filled 256 ps (omega (arith, length-map x (elements_of chars), few 0 (omega arith))) i ++ joined_parts chars xs (λ c small. few (suc c) (omega (arith, small))) i)
    ∙ sym (ap joined (map-append (elements_of chars) x (row_of xs)) ∙ flat_map-append (λ (l : List Element). l) ps (parts_in chars (row_of xs)))

pub whole_parts : (chars : List ℕ) (bs : List Block) → flat_map (λ part. part) (filled chars (items_of bs)) ≡ elements_in chars (row_of (items_of bs))
whole_parts chars bs = joined_parts chars (items_of bs) (few_items bs)
