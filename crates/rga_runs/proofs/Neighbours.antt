-- Bounds of neighbouring blocks, as blocks change.
use Rattle.std.proofs.Common.{◌≡◌, ℕ, zero, suc, ◌<◌, ◌≤◌, ◌+◌, ◌-◌, ◌*◌, ◌/◌, ◌%◌, ◌++◌, Bool, true, false, cond, not, List, [], ◌∷◌, length, drop, get_or, refl, sym, ap, subst, ◌∙◌, length-drop, length-set, arith}
use Rattle.std.specs.Prelude.{insert, set, nat_lt, nat_eq}
use Rattle.std.specs.List.{prefix_len}
use Rattle.std.specs.declared.cmp.Ordering.{Ordering}
use Rattle.std.specs.declared.cmp.Ordering.TheVariants.{Less, Equal, Greater}
use Rattle.std.specs.Ordering.{is_lt}
use Rattle.std.proofs.lemmas.Bool.{ltb-true, ltb-false, eqb-true, eqb-false, eq-eqb, and_parts}
use Rattle.std.proofs.lemmas.List.{get_or-set_same, get_or-set_other, get_or-drop}
use Rattle.std.proofs.lemmas.List.Edits.{get_or-insert_below, get_or-insert_at, get_or-insert_above}
use Rattle.std.proofs.lemmas.List.Folds.{list_all-append}
use Rattle.std.proofs.lemmas.List.Sums.{prefix_len_passes, prefix_len-le-length}
use Rattle.bg_types.specs.Identifier.{Identifier, id_cmp}
use Rattle.bg_types.proofs.Interface.{id_cmp-exact}
use Rattle.rga_tree.proofs.Interface.{turned}
use Rattle.rga_runs.specs.declared.stretch.Stretch.{Stretch}
use Rattle.rga_runs.specs.declared.block.Block.{Block}
use Rattle.rga_runs.specs.BlockRows.{items_of}
use Rattle.rga_runs.specs.Blocks.{none_below}
use Rattle.rga_runs.specs.Bounds.{AreBounds, AreBoundsBelow, AreBoundsBut}
use Rattle.rga_runs.proofs.BlockLists.{items_there}
use Rattle.rga_runs.proofs.Low.{lower, low_lesser, low_insert, all_pass}
use Rattle.rga_runs.proofs.Passed.{is_passed}

none-set : (xs : List (List Stretch)) (q p : ℕ) (y : List Stretch) (m : Identifier) → none_below m (get_or xs p []) ≡ true → (p ≡ q → none_below m y ≡ true) → none_below m (get_or (set xs q y) p []) ≡ true
none-set [] zero p y m kept new = kept
none-set [] (suc q) p y m kept new = kept
none-set (x ∷ xs) zero zero y m kept new = new refl
none-set (x ∷ xs) zero (suc p) y m kept new = kept
none-set (x ∷ xs) (suc q) zero y m kept new = kept
none-set (x ∷ xs) (suc q) (suc p) y m kept new = none-set xs q p y m kept (λ e. new (ap suc e))

none-with : (a m : Identifier) (ss : List Stretch) (at : ℕ) (s : Stretch) → s.first ≡ a → none_below m ss ≡ true → none_below (cond (is_lt (id_cmp a m)) a m) (insert ss at s) ≡ true
none-with a m ss at s is h =
    let low = low_lesser m a ss h in
    low_insert (cond (is_lt (id_cmp a m)) a m) ss at s low.0 (ap (λ i. not (is_lt (id_cmp i (cond (is_lt (id_cmp a m)) a m)))) is ∙ low.1)

-- a stretch goes into a block that has a bound
pub bounds-lower : (ms : List Identifier) (xs : List (List Stretch)) (q at : ℕ) (s : Stretch) (a m : Identifier) → s.first ≡ a → q / 32 < length ms → m ≡ get_or ms (q / 32) m → AreBounds ms xs
    → AreBounds (set ms (q / 32) (cond (is_lt (id_cmp a m)) a m)) (set xs q (insert (get_or xs q []) at s))
bounds-lower ms xs q at s a m is there m_is bounds = λ p d less. by_group p d (omega (arith, less, length-set ms (q / 32) (cond (is_lt (id_cmp a m)) a m))) (nat_eq (p / 32) (q / 32)) refl where
  by_group : (p : ℕ) (d : Identifier) → p / 32 < length ms → (b : Bool) → nat_eq (p / 32) (q / 32) ≡ b
      → none_below (get_or (set ms (q / 32) (cond (is_lt (id_cmp a m)) a m)) (p / 32) d) (get_or (set xs q (insert (get_or xs q []) at s)) p []) ≡ true
  by_group p d less true same =
      let low = cond (is_lt (id_cmp a m)) a m in
      let e : p / 32 ≡ q / 32 = eqb-true _ _ same in
      let entry = ap (λ g. get_or (set ms (q / 32) low) g d) e ∙ get_or-set_same ms (q / 32) low d there in
      let old : (r : ℕ) → r / 32 ≡ q / 32 → none_below m (get_or xs r []) ≡ true =
      λ r f. ap (λ k. none_below k (get_or xs r [])) (m_is ∙ ap (λ g. get_or ms g m) (sym f)) ∙ bounds r m (omega (arith, f, there)) in
      ap (λ k. none_below k (get_or (set xs q (insert (get_or xs q []) at s)) p [])) entry
      ∙ none-set xs q p (insert (get_or xs q []) at s) low (low_lesser m a (get_or xs p []) (old p e)).0 (λ _. none-with a m (get_or xs q []) at s is (old q refl))
  by_group p d less false other =
      let low = cond (is_lt (id_cmp a m)) a m in
      let apart : p / 32 ≡ q / 32 → ⊥ = eqb-false _ _ other in
      ap (λ k. none_below k (get_or (set xs q (insert (get_or xs q []) at s)) p [])) (get_or-set_other ms (q / 32) (p / 32) low d apart)
      ∙ none-set xs q p (insert (get_or xs q []) at s) (get_or ms (p / 32) d) (bounds p d less) (λ e. absurd (apart (ap (λ r. r / 32) e)))

-- or that has none
pub bounds-kept : (ms : List Identifier) (xs : List (List Stretch)) (q : ℕ) (y : List Stretch) → length ms ≤ q / 32 → AreBounds ms xs → AreBounds ms (set xs q y)
bounds-kept ms xs q y none bounds = λ p d less.
    let apart : p ≡ q → ⊥ = λ e. let f : p / 32 ≡ q / 32 = ap (λ r. r / 32) e in omega (arith, f, less, none) in
    none-set xs q p y (get_or ms (p / 32) d) (bounds p d less) (λ e. absurd (apart e))

-- a block changes, and what none of its stretches began below, none does now
pub bounds-same : (ms : List Identifier) (xs : List (List Stretch)) (q : ℕ) (y : List Stretch) → ((m : Identifier) → none_below m (get_or xs q []) ≡ true → none_below m y ≡ true) → AreBounds ms xs → AreBounds ms (set xs q y)
bounds-same ms xs q y same bounds = λ p d less.
    none-set xs q p y (get_or ms (p / 32) d) (bounds p d less) (λ e. same (get_or ms (p / 32) d) (ap (λ r. none_below (get_or ms (p / 32) d) (get_or xs r [])) (sym e) ∙ bounds p d less))

-- no stretch begins below the lesser of a bound and another identifier
pub none-lesser : (a m : Identifier) (ss : List Stretch) → none_below m ss ≡ true → none_below (cond (is_lt (id_cmp a m)) a m) ss ≡ true
none-lesser a m ss h = (low_lesser m a ss h).0

pub none-lesser_other : (a m : Identifier) (ss : List Stretch) → none_below a ss ≡ true → none_below (cond (is_lt (id_cmp a m)) a m) ss ≡ true
none-lesser_other a m ss h = by_order (id_cmp a m) refl where
  by_order : (o : Ordering) → id_cmp a m ≡ o → none_below (cond (is_lt o) a m) ss ≡ true
  by_order Less is = h
  by_order Equal is = subst (λ x. none_below x ss ≡ true) (id_cmp-exact a m is) h
  by_order Greater is = lower a m ss h (ap is_lt (turned a m is))

none_past : (zs : List (List Stretch)) (p : ℕ) (m : Identifier) → length zs ≤ p → none_below m (get_or zs p []) ≡ true
none_past [] p m h = refl
none_past (z ∷ zs) zero m h = absurd (omega (arith, h))
none_past (z ∷ zs) (suc p) m h = none_past zs p m (omega (arith, h))

none-halves : (m : Identifier) (low high : List Stretch) → none_below m (low ++ high) ≡ true → (none_below m low ≡ true) × (none_below m high ≡ true)
none-halves m low high h = and_parts (none_below m low) (none_below m high) (sym (list_all-append (λ (s : Stretch). not (is_lt (id_cmp s.first m))) low high) ∙ h)

-- a block is split: each behind it stands one further on
pub bounds-split : (ms : List Identifier) (xs : List (List Stretch)) (q : ℕ) (low high : List Stretch) → q < length xs → get_or xs q [] ≡ low ++ high → AreBounds ms xs → AreBoundsBut (q / 32 + 1) ms (insert (set xs q low) (q + 1) high)
bounds-split ms xs q low high there halved bounds = record {
  inside = λ p d within some. by_place p d within some (nat_lt p q) refl;
  front = λ g d under within. by_front g d under within (nat_lt (32 * g) q) refl;
} where
  ys : List (List Stretch)
  ys = insert (set xs q low) (q + 1) high

  room : q + 1 ≤ length (set xs q low)
  room = omega (arith, there, length-set xs q low)

  halves : (d : Identifier) → q / 32 < length ms → (none_below (get_or ms (q / 32) d) low ≡ true) × (none_below (get_or ms (q / 32) d) high ≡ true)
  halves d within = let m = get_or ms (q / 32) d in none-halves m low high (ap (none_below m) (sym halved) ∙ bounds q d within)

  in_front : (p : ℕ) (d : Identifier) → p / 32 < length ms → p < q → none_below (get_or ms (p / 32) d) (get_or ys p []) ≡ true
  in_front p d within less =
      let other : p ≡ q → ⊥ = λ e. omega (arith, e, less) in
      ap (none_below (get_or ms (p / 32) d)) (get_or-insert_below (set xs q low) (q + 1) high [] p (omega (arith, less)) room ∙ get_or-set_other xs q p low [] other) ∙ bounds p d within

  at_low : (d : Identifier) → q / 32 < length ms → none_below (get_or ms (q / 32) d) (get_or ys q []) ≡ true
  at_low d within = ap (none_below (get_or ms (q / 32) d)) (get_or-insert_below (set xs q low) (q + 1) high [] q (omega arith) room ∙ get_or-set_same xs q low [] there) ∙ (halves d within).0

  at_high : (d : Identifier) → (q + 1) / 32 < length ms → 0 < (q + 1) % 32 → none_below (get_or ms ((q + 1) / 32) d) (get_or ys (q + 1) []) ≡ true
  at_high d within some =
      let same : (q + 1) / 32 ≡ q / 32 = omega (arith, some) in
      ap (none_below (get_or ms ((q + 1) / 32) d)) (get_or-insert_at (set xs q low) (q + 1) high [] room) ∙ ap (λ g. none_below (get_or ms g d) high) same ∙ (halves d (omega (arith, same, within))).1

  behind : (r : ℕ) (d : Identifier) → q < r → (r + 1) / 32 < length ms → 0 < (r + 1) % 32 → none_below (get_or ms ((r + 1) / 32) d) (get_or ys (r + 1) []) ≡ true
  behind r d far within some =
      let same : (r + 1) / 32 ≡ r / 32 = omega (arith, some) in
      let other : r ≡ q → ⊥ = λ e. omega (arith, e, far) in
      ap (none_below (get_or ms ((r + 1) / 32) d)) (get_or-insert_above (set xs q low) (q + 1) high [] r (omega (arith, far)) room ∙ get_or-set_other xs q r low [] other)
      ∙ ap (λ g. none_below (get_or ms g d) (get_or xs r [])) same ∙ bounds r d (omega (arith, same, within))

  from_low : (p : ℕ) (d : Identifier) → p / 32 < length ms → 0 < p % 32 → q ≤ p → (b : Bool) → nat_lt q p ≡ b → none_below (get_or ms (p / 32) d) (get_or ys p []) ≡ true
  from_low p d within some low_end false is =
      let le : p ≤ q = ltb-false _ _ is in
      let e : q ≡ p = omega (arith, low_end, le) in
      subst (λ r. r / 32 < length ms → none_below (get_or ms (r / 32) d) (get_or ys r []) ≡ true) e (at_low d) within
  from_low p d within some low_end true is =
      let more : q < p = ltb-true _ _ is in
      from_high p d within some more (nat_eq p (q + 1)) refl where
        from_high : (p : ℕ) (d : Identifier) → p / 32 < length ms → 0 < p % 32 → q < p → (b : Bool) → nat_eq p (q + 1) ≡ b → none_below (get_or ms (p / 32) d) (get_or ys p []) ≡ true
        from_high p d within some more true is =
            let e : q + 1 ≡ p = sym (eqb-true _ _ is) in
            subst (λ r. r / 32 < length ms → 0 < r % 32 → none_below (get_or ms (r / 32) d) (get_or ys r []) ≡ true) e (at_high d) within some
        from_high p d within some more false is =
            let other : p ≡ q + 1 → ⊥ = eqb-false _ _ is in
            let e : p - 1 + 1 ≡ p = omega (arith, more) in
            subst (λ r. r / 32 < length ms → 0 < r % 32 → none_below (get_or ms (r / 32) d) (get_or ys r []) ≡ true) e (behind (p - 1) d (omega (arith, more, other))) within some

  by_place : (p : ℕ) (d : Identifier) → p / 32 < length ms → 0 < p % 32 → (b : Bool) → nat_lt p q ≡ b → none_below (get_or ms (p / 32) d) (get_or ys p []) ≡ true
  by_place p d within some true is = in_front p d within (ltb-true _ _ is)
  by_place p d within some false is = from_low p d within some (ltb-false _ _ is) (nat_lt q p) refl

  by_front : (g : ℕ) (d : Identifier) → g < q / 32 + 1 → g < length ms → (b : Bool) → nat_lt (32 * g) q ≡ b → none_below (get_or ms g d) (get_or ys (32 * g) []) ≡ true
  by_front g d under within true is =
      let own : (32 * g) / 32 ≡ g = omega arith in
      ap (λ k. none_below (get_or ms k d) (get_or ys (32 * g) [])) (sym own) ∙ in_front (32 * g) d (omega (arith, own, within)) (ltb-true _ _ is)
  by_front g d under within false is =
      let ge : q ≤ 32 * g = ltb-false _ _ is in
      let e : q ≡ 32 * g = omega (arith, ge, under) in
      let own : q / 32 ≡ g = omega (arith, e) in
      ap (λ k. none_below (get_or ms k d) (get_or ys (32 * g) [])) (sym own) ∙ ap (λ r. none_below (get_or ms (q / 32) d) (get_or ys r [])) (sym e) ∙ at_low d (omega (arith, own, within))

-- the first block of the next neighbours is taken in
pub bounds-taken_in : (ms : List Identifier) (xs : List (List Stretch)) (g : ℕ) (a m : Identifier) → g < length ms → m ≡ get_or ms g m → none_below a (get_or xs (32 * g) []) ≡ true
    → AreBoundsBut g ms xs → AreBoundsBut (g + 1) (set ms g (cond (is_lt (id_cmp a m)) a m)) xs
bounds-taken_in ms xs g a m there m_is first but = record {
  inside = λ p d within some. by_inside p d (omega (arith, within, length-set ms g low)) some (nat_eq (p / 32) g) refl;
  front = λ k d under within. by_front k d under (omega (arith, within, length-set ms g low)) (nat_eq k g) refl;
} where
  low : Identifier
  low = cond (is_lt (id_cmp a m)) a m

  by_inside : (p : ℕ) (d : Identifier) → p / 32 < length ms → 0 < p % 32 → (b : Bool) → nat_eq (p / 32) g ≡ b → none_below (get_or (set ms g low) (p / 32) d) (get_or xs p []) ≡ true
  by_inside p d within some true is =
      let e : p / 32 ≡ g = eqb-true _ _ is in
      let entry = ap (λ k. get_or (set ms g low) k d) e ∙ get_or-set_same ms g low d there in
      let old : none_below m (get_or xs p []) ≡ true = ap (λ k. none_below k (get_or xs p [])) (m_is ∙ ap (λ k. get_or ms k m) (sym e)) ∙ but.inside p m within some in
      ap (λ k. none_below k (get_or xs p [])) entry ∙ (low_lesser m a (get_or xs p []) old).0
  by_inside p d within some false is = ap (λ k. none_below k (get_or xs p [])) (get_or-set_other ms g (p / 32) low d (eqb-false _ _ is)) ∙ but.inside p d within some

  by_front : (k : ℕ) (d : Identifier) → k < g + 1 → k < length ms → (b : Bool) → nat_eq k g ≡ b → none_below (get_or (set ms g low) k d) (get_or xs (32 * k) []) ≡ true
  by_front k d under within true is =
      let e : k ≡ g = eqb-true _ _ is in
      ap (λ j. none_below (get_or (set ms g low) j d) (get_or xs (32 * j) [])) e ∙ ap (λ i. none_below i (get_or xs (32 * g) [])) (get_or-set_same ms g low d there) ∙ none-lesser_other a m (get_or xs (32 * g) []) first
  by_front k d under within false is =
      let other : k ≡ g → ⊥ = eqb-false _ _ is in
      ap (λ i. none_below i (get_or xs (32 * k) [])) (get_or-set_other ms g k low d other) ∙ but.front k d (omega (arith, under, other)) within

-- so those of all neighbours are, or there is none
pub bounds-whole : (n : ℕ) (ms : List Identifier) (xs : List (List Stretch)) → (n < length ms → length xs ≤ 32 * n) → AreBoundsBut n ms xs → AreBounds ms xs
bounds-whole n ms xs long but = λ p d within. by_rest p d within (nat_eq (p % 32) 0) refl where
  by_end : (p : ℕ) (d : Identifier) → p / 32 < length ms → p % 32 ≡ 0 → (b : Bool) → nat_lt (p / 32) n ≡ b → none_below (get_or ms (p / 32) d) (get_or xs p []) ≡ true
  by_end p d within none true is =
      let e : 32 * (p / 32) ≡ p = omega (arith, none) in
      ap (λ r. none_below (get_or ms (p / 32) d) (get_or xs r [])) (sym e) ∙ but.front (p / 32) d (ltb-true _ _ is) within
  by_end p d within none false is =
      let far : n ≤ p / 32 = ltb-false _ _ is in
      let few : length xs ≤ 32 * n = long (omega (arith, far, within)) in
      none_past xs p (get_or ms (p / 32) d) (omega (arith, few, far))

  by_rest : (p : ℕ) (d : Identifier) → p / 32 < length ms → (b : Bool) → nat_eq (p % 32) 0 ≡ b → none_below (get_or ms (p / 32) d) (get_or xs p []) ≡ true
  by_rest p d within true is = by_end p d within (eqb-true _ _ is) (nat_lt (p / 32) n) refl
  by_rest p d within false is = let some : p % 32 ≡ 0 → ⊥ = eqb-false _ _ is in but.inside p d within (omega (arith, some))

-- what is true of all blocks
pub bounds-all : (n : ℕ) (ms : List Identifier) (xs : List (List Stretch)) → length xs ≤ n → AreBoundsBelow n ms xs → AreBounds ms xs
bounds-all n ms xs long bounds = λ p d less. by_place p d less (nat_lt p n) refl where
  by_place : (p : ℕ) (d : Identifier) → p / 32 < length ms → (b : Bool) → nat_lt p n ≡ b → none_below (get_or ms (p / 32) d) (get_or xs p []) ≡ true
  by_place p d less true is = bounds p d (ltb-true _ _ is) less
  by_place p d less false is = let far : n ≤ p = ltb-false _ _ is in none_past xs p (get_or ms (p / 32) d) (omega (arith, far, long))

below_or_at : (p q : ℕ) → p < q + 1 → (P : ℕ → Type 0) → (p < q → P p) → P q → P p
below_or_at p q within P under at = by_place (nat_lt p q) refl where
  by_place : (c : Bool) → nat_lt p q ≡ c → P p
  by_place true is = under (ltb-true _ _ is)
  by_place false is = let far : q ≤ p = ltb-false _ _ is in let f : q ≡ p = omega (arith, far, within) in subst P f at

-- the next block is written down
pub bounds-note : (ms : List Identifier) (xs : List (List Stretch)) (q : ℕ) (low : Identifier) → q / 32 < length ms → none_below low (get_or xs q []) ≡ true
    → ((p : ℕ) → p < q → p / 32 ≡ q / 32 → none_below low (get_or xs p []) ≡ true)
    → AreBoundsBelow q ms xs → AreBoundsBelow (q + 1) (set ms (q / 32) low) xs
bounds-note ms xs q low there here before bounds = λ p d within less. by_group p d within (omega (arith, less, length-set ms (q / 32) low)) (nat_eq (p / 32) (q / 32)) refl where
  by_group : (p : ℕ) (d : Identifier) → p < q + 1 → p / 32 < length ms → (b : Bool) → nat_eq (p / 32) (q / 32) ≡ b → none_below (get_or (set ms (q / 32) low) (p / 32) d) (get_or xs p []) ≡ true
  by_group p d within less true same =
      let e : p / 32 ≡ q / 32 = eqb-true _ _ same in
      let entry = ap (λ g. get_or (set ms (q / 32) low) g d) e ∙ get_or-set_same ms (q / 32) low d there in
      ap (λ k. none_below k (get_or xs p [])) entry
      ∙ below_or_at p q within (λ r. r / 32 ≡ q / 32 → none_below low (get_or xs r []) ≡ true) (λ less. before p less) (λ _. here) e
  by_group p d within less false other =
      let apart : p / 32 ≡ q / 32 → ⊥ = eqb-false _ _ other in
      ap (λ k. none_below k (get_or xs p [])) (get_or-set_other ms (q / 32) (p / 32) low d apart)
      ∙ bounds p d (below_or_at p q within (λ r. (r / 32 ≡ q / 32 → ⊥) → r < q) (λ less _. less) (λ f. absurd (f refl)) apart) less

pub bounds-noted_none : (ms : List Identifier) (xs : List (List Stretch)) (q : ℕ) → length ms ≤ q / 32 → AreBoundsBelow q ms xs → AreBoundsBelow (q + 1) ms xs
bounds-noted_none ms xs q none bounds = λ p d within less.
    bounds p d (let apart : p / 32 < q / 32 = omega (arith, less, none) in omega (arith, apart)) less

-- blocks that a greater bound passes
pub bounds-pass : (ms : List Identifier) (bs : List Block) (g k : ℕ) (id : Identifier) (d : Block) → AreBounds ms (items_of bs) → k < length bs → g ≤ k / 32 → k / 32 < g + prefix_len (λ m. is_lt (id_cmp id m)) (drop g ms)
    → is_passed id (get_or bs k d) ≡ true
bounds-pass ms bs g k id d bounds there low high =
    let b = get_or bs k d in
    let n : ℕ = k / 32 - g in
    let s : g + n ≡ k / 32 = omega (arith, low) in
    let t : Identifier → Bool = λ m. is_lt (id_cmp id m) in
    let m = get_or ms (k / 32) id in
    let passes : t m ≡ true = ap t (ap (λ r. get_or ms r id) (sym s) ∙ sym (get_or-drop g ms n id)) ∙ prefix_len_passes t (drop g ms) n id (omega (arith, high, s)) in
    let within : k / 32 < length ms = omega (arith, high, s, prefix_len-le-length t (drop g ms), length-drop g ms) in
    let low_all : none_below m b.stretches.items ≡ true = ap (none_below m) (sym (items_there bs k d there)) ∙ bounds k id within in
    eq-eqb _ _ (all_pass id m b.stretches.items passes low_all)
