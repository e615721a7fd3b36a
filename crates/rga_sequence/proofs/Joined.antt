-- Blocks joined to a row.
use Rattle.std.proofs.Common.{◌≡◌, ℕ, zero, suc, ◌<◌, ◌≤◌, ◌+◌, ◌-◌, List, [], ◌∷◌, length, take, drop, get_or, refl, sym, ap, ◌∙◌, length-drop, length-take-le, arith}
use Rattle.std.specs.Prelude.{insert, set}
use Rattle.std.proofs.lemmas.List.{take-append-drop}
use Rattle.std.proofs.lemmas.List.Folds.{length-flat_map-take}
use Rattle.rga_tree.specs.declared.element.Element.{Element}
use Rattle.rga_tree.proofs.Interface.{joined-suc, split_joined, split_low, split_front, split_long}
use Rattle.rga_sequence.specs.Blocks.{joined, offset}

pub split_high : (xs : List (List Element)) (q : ℕ) (low high : List Element) → q < length xs → get_or (insert (set xs q low) (q + 1) high) (q + 1) [] ≡ high
split_high xs q low high there = let e : q + 1 ≡ suc q = omega arith in rw e (at xs q there) where
  at : (xs : List (List Element)) (q : ℕ) → q < length xs → get_or (insert (set xs q low) (suc q) high) (suc q) [] ≡ high
  at [] q there = absurd (omega arith)
  at (x ∷ xs) zero there = refl
  at (x ∷ xs) (suc q) there = at xs q (omega arith)

-- where the places of the halves stand in the row
pub offset_low : (xs : List (List Element)) (q at : ℕ) (low high : List Element) → q < length xs → offset (insert (set xs q low) (q + 1) high) q at ≡ offset xs q at
offset_low xs q at low high there = ap (λ r. length (joined r) + at) (split_front xs q low high there)

pub offset_high : (xs : List (List Element)) (q at : ℕ) (low high : List Element) → q < length xs → offset (insert (set xs q low) (q + 1) high) (q + 1) at ≡ offset xs q (length low + at)
offset_high xs q at low high there =
    let ys = insert (set xs q low) (q + 1) high in
    let s : q + 1 ≡ suc q = omega arith in
    omega (arith, ap (λ k. length (joined (take k ys))) s, joined-suc ys q, ap length (split_low xs q low high there), ap (λ r. length (joined r)) (split_front xs q low high there))

pub offset_within : (xs : List (List Element)) (q at : ℕ) → q < length xs → at ≤ length (get_or xs q []) → offset xs q at ≤ length (joined xs)
offset_within xs q at there within = omega (arith, length-flat_map-take (λ (x : List Element). x) xs q [] there, within)

-- what the row is where a full block stands in two halves
pub record IsHalved (xs ys : List (List Element)) (q : ℕ) : Type 0 where
  pub low : length (get_or ys q []) ≡ 256
  pub high : length (get_or ys (q + 1) []) ≡ 256
  pub longer : length ys ≡ length xs + 1
  pub same : joined ys ≡ joined xs
  pub place_low : (at : ℕ) → offset ys q at ≡ offset xs q at
  pub place_high : (at : ℕ) → 256 ≤ at → offset ys (q + 1) (at - 256) ≡ offset xs q at

pub halved : (xs ys : List (List Element)) (q : ℕ) → q < length xs → length (get_or xs q []) ≡ 512
    → ys ≡ insert (set xs q (take 256 (get_or xs q []))) (q + 1) (drop 256 (get_or xs q [])) → IsHalved xs ys q
halved xs ys q there full is =
    let x = get_or xs q [] in
    let low = take 256 x in
    let high = drop 256 x in
    let few : length low ≡ 256 = length-take-le 256 x (omega (arith, full)) in
    let rest : length high ≡ 256 = omega (arith, length-drop 256 x, full) in
    record {
      low = ap (λ r. length (get_or r q [])) is ∙ ap length (split_low xs q low high there) ∙ few;
      high = ap (λ r. length (get_or r (q + 1) [])) is ∙ ap length (split_high xs q low high there) ∙ rest;
      longer = ap length is ∙ split_long xs q low high there;
      same = ap joined is ∙ split_joined xs q low high there (sym (take-append-drop 256 x));
      place_low = λ at. ap (λ r. offset r q at) is ∙ offset_low xs q at low high there;
      place_high = λ at more.
          let sum : length low + (at - 256) ≡ at = omega (arith, few, more) in
          ap (λ r. offset r (q + 1) (at - 256)) is ∙ offset_high xs q (at - 256) low high there ∙ ap (offset xs q) sum;
    }
