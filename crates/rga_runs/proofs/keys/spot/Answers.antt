-- The goals of `spot` that are answered by hand.
use Rattle.std.proofs.Common.{◌≡◌, ℕ, zero, suc, ◌<◌, ◌≤◌, ◌-◌, ◌∙◌, Bool, true, false, [], List, refl, length, get_or, sym, ap, subst, arith}
use Rattle.std.specs.Prelude.{nat_eq}
use Rattle.std.specs.List.Sorted.{IsNonDecreasingBy}
use Rattle.std.proofs.lemmas.Bool.{eqb-true, eqb-false}
use Rattle.rga_runs.specs.declared.key.Key.{Key}
use Rattle.rga_runs.specs.Keyed.{rank, begins}
use Rattle.rga_runs.specs.Leaves.{keys_of}
use Rattle.rga_runs.proofs.Chunks.{row, at, get_or_row, at_less, one_there}
use Rattle.rga_runs.proofs.LeafRows.{length-keys, keys_there, some_keys, begins_at, below_spot, above_spot}
use Rattle.rga_runs.proofs.keys.spot.Goals as goal

-- the keys of a leaf are in order
leaf_rises : (xs : List (List Key)) (b : ℕ) → b < length xs → IsNonDecreasingBy (λ k. rank k.first) (row xs) → IsNonDecreasingBy (λ k. rank k.first) (get_or xs b [])
leaf_rises xs b there rising = λ i j d le less.
    let first = ap (λ (k : Key). rank k.first) (get_or_row xs b i d there (omega (arith, le, less))) in
    let second = ap (λ (k : Key). rank k.first) (get_or_row xs b j d there less) in
    let step = rising (at xs b i) (at xs b j) d (omega (arith, le)) (at_less xs b j there less) in
    omega (arith, first, second, step)

-- the first leaf is taken where none begins, else the last that does
front_leaf : (xs : List (List Key)) (r b m j : ℕ) → b ≡ m - 1 → b < length xs → 0 < length (get_or xs b []) → ((i : ℕ) → i < m → begins (get_or xs i []) ≤ r) → ((i : ℕ) (d : Key) → j ≤ i → i < length (get_or xs b []) → r < rank (get_or (get_or xs b []) i d).first)
    → j ≡ 0 → b ≡ 0
front_leaf xs r b m j is there some below above none = by_test (nat_eq b 0) refl where
  by_test : (t : Bool) → nat_eq b 0 ≡ t → b ≡ 0
  by_test true none = eqb-true b 0 none
  by_test false other =
      let never = eqb-false b 0 other in
      let more : 0 < b = more_of b never in
      let d = one_there (get_or xs b []) 0 some in
      let low = below b (omega (arith, is, more)) in
      let high = above 0 d (omega (arith, none)) some in
      absurd (omega (arith, low, high, begins_at (get_or xs b []) d some)) where
        more_of : (n : ℕ) → (n ≡ 0 → ⊥) → 0 < n
        more_of zero never = absurd (never refl)
        more_of (suc n) never = omega arith

pub not_above-requires : goal.not_above-requires
not_above-requires c =
    let ls = c.args.leaves.now in
    let b = c.saturating_sub-b.result in
    let there : b < length ls = omega (arith, c.requires.some, c.saturating_sub-b.ensures, c.begun.ensures.within) in
    let here = keys_there ls b c.index-leaves-b.result there in
    subst (IsNonDecreasingBy (λ (k : Key). rank k.first)) (here ∙ sym c.deref.ensures.value) (leaf_rises (keys_of ls) b (omega (arith, there, length-keys ls)) c.requires.rising)

pub returns-clause-front : goal.returns-clause-front
returns-clause-front c =
    let ls = c.args.leaves.now in
    let b = c.saturating_sub-b.result in
    let there : b < length ls = omega (arith, c.requires.some, c.saturating_sub-b.ensures, c.begun.ensures.within) in
    let here = keys_there ls b c.index-leaves-b.result there ∙ sym c.deref.ensures.value in
    let within : b < length (keys_of ls) = omega (arith, there, length-keys ls) in
    let r = rank c.args.id in
    let j = c.not_above.result in
    let above = subst (λ (l : List Key). (i : ℕ) (d : Key) → j ≤ i → i < length l → r < rank (get_or l i d).first) (sym here) c.not_above.ensures.above in
    front_leaf (keys_of ls) r b c.begun.result j c.saturating_sub-b.ensures within (some_keys ls b within) c.begun.ensures.below above

pub returns-clause-below : goal.returns-clause-below
returns-clause-below c =
    let ls = c.args.leaves.now in
    let b = c.saturating_sub-b.result in
    let there : b < length ls = omega (arith, c.requires.some, c.saturating_sub-b.ensures, c.begun.ensures.within) in
    let here = keys_there ls b c.index-leaves-b.result there ∙ sym c.deref.ensures.value in
    let within : b < length (keys_of ls) = omega (arith, there, length-keys ls) in
    let r = rank c.args.id in
    let j = c.not_above.result in
    let below = subst (λ (l : List Key). (i : ℕ) (d : Key) → i < j → rank (get_or l i d).first ≤ r) (sym here) c.not_above.ensures.below in
    let above = subst (λ (l : List Key). (i : ℕ) (d : Key) → j ≤ i → i < length l → r < rank (get_or l i d).first) (sym here) c.not_above.ensures.above in
    let front = front_leaf (keys_of ls) r b c.begun.result j c.saturating_sub-b.ensures within (some_keys ls b within) c.begun.ensures.below above in
    below_spot (keys_of ls) r b j c.requires.rising within (omega (arith, c.not_above.ensures.within, ap length here)) below front

pub returns-clause-above : goal.returns-clause-above
returns-clause-above c =
    let ls = c.args.leaves.now in
    let b = c.saturating_sub-b.result in
    let there : b < length ls = omega (arith, c.requires.some, c.saturating_sub-b.ensures, c.begun.ensures.within) in
    let here = keys_there ls b c.index-leaves-b.result there ∙ sym c.deref.ensures.value in
    let within : b < length (keys_of ls) = omega (arith, there, length-keys ls) in
    let r = rank c.args.id in
    let j = c.not_above.result in
    let above = subst (λ (l : List Key). (i : ℕ) (d : Key) → j ≤ i → i < length l → r < rank (get_or l i d).first) (sym here) c.not_above.ensures.above in
    above_spot (keys_of ls) r b j c.requires.rising within (omega (arith, c.not_above.ensures.within, ap length here)) above
    (λ e from less. c.begun.ensures.above e (omega (arith, from, c.saturating_sub-b.ensures)) (omega (arith, less, length-keys ls))) (some_keys ls)
