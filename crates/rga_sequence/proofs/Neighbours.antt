-- Bounds of neighbouring blocks, as blocks change.
use Rattle.std.proofs.Common.{◌≡◌, ℕ, zero, suc, ◌<◌, ◌≤◌, ◌+◌, ◌-◌, ◌/◌, ◌||◌, Bool, true, false, cond, not, List, [], ◌∷◌, length, take, drop, get_or, refl, sym, ap, subst, ◌∙◌, zero-add, length-drop, length-set, arith}
use Rattle.std.specs.Prelude.{insert, set, nat_lt, nat_eq}
use Rattle.std.specs.List.{list_any, prefix_len}
use Rattle.std.specs.declared.cmp.Ordering.{Ordering}
use Rattle.std.specs.declared.cmp.Ordering.TheVariants.{Less, Equal, Greater}
use Rattle.std.specs.Ordering.{is_lt}
use Rattle.std.proofs.lemmas.Bool.{ltb-true, ltb-false, eqb-true, eqb-false, and_parts}
use Rattle.std.proofs.lemmas.List.{get_or-set_same, get_or-set_other, get_or-drop, get_or_past, take-append-drop}
use Rattle.std.proofs.lemmas.List.Edits.{get_or-insert_below}
use Rattle.std.proofs.lemmas.List.Sums.{prefix_len_passes, prefix_len-le-length}
use Rattle.bg_types.specs.Identifier.{Identifier, id_cmp, same_id}
use Rattle.bg_types.proofs.Interface.{id_cmp-exact, same_id-is}
use Rattle.rga_tree.specs.declared.element.Element.{Element}
use Rattle.rga_sequence.specs.declared.block.Block.{Block}
use Rattle.rga_sequence.specs.BlockRows.{items_of}
use Rattle.rga_sequence.specs.Blocks.{none_below}
use Rattle.rga_sequence.specs.Bounds.{AreBounds, AreBoundsBelow}
use Rattle.rga_sequence.proofs.Grown.{all_with}
use Rattle.rga_sequence.proofs.Least.{lower, not_itself}
use Rattle.rga_sequence.proofs.Passing.{is_passed, items_there, above_least}
use Rattle.rga_tree.proofs.Interface.{turned}

none-set : (xs : List (List Element)) (q p : ℕ) (y : List Element) (m : Identifier) → none_below m (get_or xs p []) ≡ true → (p ≡ q → none_below m y ≡ true) → none_below m (get_or (set xs q y) p []) ≡ true
none-set [] zero p y m kept new = kept
none-set [] (suc q) p y m kept new = kept
none-set (x ∷ xs) zero zero y m kept new = new refl
none-set (x ∷ xs) zero (suc p) y m kept new = kept
none-set (x ∷ xs) (suc q) zero y m kept new = kept
none-set (x ∷ xs) (suc q) (suc p) y m kept new = none-set xs q p y m kept (λ e. new (ap suc e))

-- no element is below the lesser of a bound and a new identifier
pub none-lesser : (a m : Identifier) (es : List Element) → none_below m es ≡ true → none_below (cond (is_lt (id_cmp a m)) a m) es ≡ true
none-lesser a m es h = by_test (is_lt (id_cmp a m)) refl where
  by_test : (b : Bool) → is_lt (id_cmp a m) ≡ b → none_below (cond b a m) es ≡ true
  by_test true lt = lower m a es h lt
  by_test false ge = h

lesser-self : (a m : Identifier) → not (is_lt (id_cmp a (cond (is_lt (id_cmp a m)) a m))) ≡ true
lesser-self a m = by_test (is_lt (id_cmp a m)) refl where
  by_test : (b : Bool) → is_lt (id_cmp a m) ≡ b → not (is_lt (id_cmp a (cond b a m))) ≡ true
  by_test true lt = not_itself a
  by_test false ge = ap not ge

none-with : (a m : Identifier) (es : List Element) (at : ℕ) (n : Element) → n.id ≡ a → none_below m es ≡ true → none_below (cond (is_lt (id_cmp a m)) a m) (insert es at n) ≡ true
none-with a m es at n is h =
    let low = cond (is_lt (id_cmp a m)) a m in
    all_with (λ e. not (is_lt (id_cmp e.id low))) (take at es) (drop at es) n
    (ap (λ i. not (is_lt (id_cmp i low))) is ∙ lesser-self a m)
    (ap (none_below low) (take-append-drop at es) ∙ none-lesser a m es h)

-- an element goes into a block that has a bound
pub bounds-lower : (ms : List Identifier) (xs : List (List Element)) (q at : ℕ) (n : Element) (a m : Identifier) → n.id ≡ a → q / 32 < length ms → m ≡ get_or ms (q / 32) m → AreBounds ms xs
    → AreBounds (set ms (q / 32) (cond (is_lt (id_cmp a m)) a m)) (set xs q (insert (get_or xs q []) at n))
bounds-lower ms xs q at n a m is there m_is bounds = λ p d less. by_group p d (omega (arith, less, length-set ms (q / 32) (cond (is_lt (id_cmp a m)) a m))) (nat_eq (p / 32) (q / 32)) refl where
  by_group : (p : ℕ) (d : Identifier) → p / 32 < length ms → (b : Bool) → nat_eq (p / 32) (q / 32) ≡ b
      → none_below (get_or (set ms (q / 32) (cond (is_lt (id_cmp a m)) a m)) (p / 32) d) (get_or (set xs q (insert (get_or xs q []) at n)) p []) ≡ true
  by_group p d less true same =
      let low = cond (is_lt (id_cmp a m)) a m in
      let e : p / 32 ≡ q / 32 = eqb-true _ _ same in
      let entry = ap (λ g. get_or (set ms (q / 32) low) g d) e ∙ get_or-set_same ms (q / 32) low d there in
      let old : (r : ℕ) → r / 32 ≡ q / 32 → none_below m (get_or xs r []) ≡ true =
      λ r f. ap (λ k. none_below k (get_or xs r [])) (m_is ∙ ap (λ g. get_or ms g m) (sym f)) ∙ bounds r m (omega (arith, f, there)) in
      ap (λ k. none_below k (get_or (set xs q (insert (get_or xs q []) at n)) p [])) entry
      ∙ none-set xs q p (insert (get_or xs q []) at n) low (none-lesser a m (get_or xs p []) (old p e)) (λ _. none-with a m (get_or xs q []) at n is (old q refl))
  by_group p d less false other =
      let low = cond (is_lt (id_cmp a m)) a m in
      let apart : p / 32 ≡ q / 32 → ⊥ = eqb-false _ _ other in
      ap (λ k. none_below k (get_or (set xs q (insert (get_or xs q []) at n)) p [])) (get_or-set_other ms (q / 32) (p / 32) low d apart)
      ∙ none-set xs q p (insert (get_or xs q []) at n) (get_or ms (p / 32) d) (bounds p d less) (λ e. absurd (apart (ap (λ r. r / 32) e)))

-- or that has none
pub bounds-kept : (ms : List Identifier) (xs : List (List Element)) (q : ℕ) (y : List Element) → length ms ≤ q / 32 → AreBounds ms xs → AreBounds ms (set xs q y)
bounds-kept ms xs q y none bounds = λ p d less.
    let apart : p ≡ q → ⊥ = λ e. let f : p / 32 ≡ q / 32 = ap (λ r. r / 32) e in omega (arith, f, less, none) in
    none-set xs q p y (get_or ms (p / 32) d) (bounds p d less) (λ e. absurd (apart e))

-- an element is hidden
pub bounds-same : (ms : List Identifier) (xs : List (List Element)) (q : ℕ) (y : List Element) → ((m : Identifier) → none_below m y ≡ none_below m (get_or xs q [])) → AreBounds ms xs → AreBounds ms (set xs q y)
bounds-same ms xs q y same bounds = λ p d less.
    none-set xs q p y (get_or ms (p / 32) d) (bounds p d less) (λ e. same (get_or ms (p / 32) d) ∙ ap (λ r. none_below (get_or ms (p / 32) d) (get_or xs r [])) (sym e) ∙ bounds p d less)

-- a block is split: those before it stay
pub bounds-split : (ms : List Identifier) (xs : List (List Element)) (q n : ℕ) (low high : List Element) → q < length xs → n ≤ q → AreBounds ms xs → AreBoundsBelow n ms (insert (set xs q low) (q + 1) high)
bounds-split ms xs q n low high there before bounds = λ p d less under.
    let other : p ≡ q → ⊥ = λ e. omega (arith, e, less, before) in
    let same = get_or-insert_below (set xs q low) (q + 1) high [] p (omega (arith, less, before)) (omega (arith, there, length-set xs q low)) ∙ get_or-set_other xs q p low [] other in
    ap (none_below (get_or ms (p / 32) d)) same ∙ bounds p d under

-- what is true of all blocks
pub bounds-all : (n : ℕ) (ms : List Identifier) (xs : List (List Element)) → length xs ≤ n → AreBoundsBelow n ms xs → AreBounds ms xs
bounds-all n ms xs long bounds = λ p d less. by_place p d less (nat_lt p n) refl where
  by_place : (p : ℕ) (d : Identifier) → p / 32 < length ms → (b : Bool) → nat_lt p n ≡ b → none_below (get_or ms (p / 32) d) (get_or xs p []) ≡ true
  by_place p d less true is = bounds p d (ltb-true _ _ is) less
  by_place p d less false is = let far : n ≤ p = ltb-false _ _ is in ap (none_below (get_or ms (p / 32) d)) (get_or_past xs p [] (omega (arith, far, long)))

below_or_at : (p q : ℕ) → p < q + 1 → (P : ℕ → Type 0) → (p < q → P p) → P q → P p
below_or_at p q within P under at = by_place (nat_lt p q) refl where
  by_place : (c : Bool) → nat_lt p q ≡ c → P p
  by_place true is = under (ltb-true _ _ is)
  by_place false is = let far : q ≤ p = ltb-false _ _ is in let f : q ≡ p = omega (arith, far, within) in subst P f at

-- the next block is written down
pub bounds-note : (ms : List Identifier) (xs : List (List Element)) (q : ℕ) (low : Identifier) → q / 32 < length ms → none_below low (get_or xs q []) ≡ true
    → ((p : ℕ) → p < q → p / 32 ≡ q / 32 → none_below low (get_or xs p []) ≡ true)
    → AreBoundsBelow q ms xs → AreBoundsBelow (q + 1) (set ms (q / 32) low) xs
bounds-note ms xs q low there here before bounds = λ p d within less. by_group p d within (omega (arith, less, length-set ms (q / 32) low)) (nat_eq (p / 32) (q / 32)) refl where
  by_group : (p : ℕ) (d : Identifier) → p < q + 1 → p / 32 < length ms → (b : Bool) → nat_eq (p / 32) (q / 32) ≡ b → none_below (get_or (set ms (q / 32) low) (p / 32) d) (get_or xs p []) ≡ true
  by_group p d within less true same =
      let e : p / 32 ≡ q / 32 = eqb-true _ _ same in
      let entry = ap (λ g. get_or (set ms (q / 32) low) g d) e ∙ get_or-set_same ms (q / 32) low d there in
      ap (λ k. none_below k (get_or xs p [])) entry
      ∙ below_or_at p q within (λ r. r / 32 ≡ q / 32 → none_below low (get_or xs r []) ≡ true) (λ less. before p less) (λ _. here) e
  by_group p d within less false other =
      let apart : p / 32 ≡ q / 32 → ⊥ = eqb-false _ _ other in
      ap (λ k. none_below k (get_or xs p [])) (get_or-set_other ms (q / 32) (p / 32) low d apart)
      ∙ bounds p d (below_or_at p q within (λ r. (r / 32 ≡ q / 32 → ⊥) → r < q) (λ less _. less) (λ f. absurd (f refl)) apart) less

-- no element is below the lesser of a bound and another identifier
pub none-lesser_other : (a m : Identifier) (es : List Element) → none_below a es ≡ true → none_below (cond (is_lt (id_cmp a m)) a m) es ≡ true
none-lesser_other a m es h = by_order (id_cmp a m) refl where
  by_order : (o : Ordering) → id_cmp a m ≡ o → none_below (cond (is_lt o) a m) es ≡ true
  by_order Less is = h
  by_order Equal is = subst (λ x. none_below x es ≡ true) (id_cmp-exact a m is) h
  by_order Greater is = lower a m es h (ap is_lt (turned a m is))

pub bounds-noted_none : (ms : List Identifier) (xs : List (List Element)) (q : ℕ) → length ms ≤ q / 32 → AreBoundsBelow q ms xs → AreBoundsBelow (q + 1) ms xs
bounds-noted_none ms xs q none bounds = λ p d within less.
    bounds p d (let apart : p / 32 < q / 32 = omega (arith, less, none) in omega (arith, apart)) less

none-there : (m a : Identifier) (es : List Element) → none_below m es ≡ true → list_any (λ e. same_id a e.id) es ≡ true → not (is_lt (id_cmp a m)) ≡ true
none-there m a [] low there = absurd cc
none-there m a (e ∷ es) low there =
    let parts = and_parts (not (is_lt (id_cmp e.id m))) (none_below m es) low in
    by_test (λ rest. none-there m a es parts.1 rest) parts.0 (same_id a e.id) refl there where
      by_test : (list_any (λ e. same_id a e.id) es ≡ true → not (is_lt (id_cmp a m)) ≡ true) → not (is_lt (id_cmp e.id m)) ≡ true → (b : Bool) → same_id a e.id ≡ b → (b || list_any (λ x. same_id a x.id) es) ≡ true → not (is_lt (id_cmp a m)) ≡ true
      by_test rest here true is _ = ap (λ x. not (is_lt (id_cmp x m))) (same_id-is a e.id is) ∙ here
      by_test rest here false is later = rest later

-- blocks that a greater bound passes
pub bounds-pass : (ms : List Identifier) (bs : List Block) (g k : ℕ) (id : Identifier) (d : Block) → AreBounds ms (items_of bs) → k < length bs → g ≤ k / 32 → k / 32 < g + prefix_len (λ m. is_lt (id_cmp id m)) (drop g ms)
    → is_passed id (get_or bs k d) ≡ true
bounds-pass ms bs g k id d bounds there low high =
    let b = get_or bs k d in
    let n : ℕ = k / 32 - g in
    let s : g + n ≡ k / 32 = omega (arith, low) in
    let t : Identifier → Bool = λ m. is_lt (id_cmp id m) in
    let m = get_or ms (k / 32) id in
    let passes : t m ≡ true = ap t (ap (λ r. get_or ms r id) (sym s) ∙ sym (get_or-drop g ms n id)) ∙ prefix_len_passes t (drop g ms) n id (omega (arith, high, s)) in
    let within : k / 32 < length ms = omega (arith, high, s, prefix_len-le-length t (drop g ms), length-drop g ms) in
    let low_all : none_below m b.elements.items ≡ true = ap (none_below m) (sym (items_there bs k d there)) ∙ bounds k id within in
    let parts = and_parts (none_below b.least b.elements.items) (list_any (λ e. same_id b.least e.id) b.elements.items) b.least_is in
    above_least id m b.least passes (none-there m b.least b.elements.items low_all parts.1)

-- blocks that are passed one after the other
pub passed_over : (t : Block → Bool) (bs : List Block) (n : ℕ) → n ≤ length bs → ((k : ℕ) (d : Block) → k < n → t (get_or bs k d) ≡ true) → prefix_len t bs ≡ n + prefix_len t (drop n bs)
passed_over t bs zero many all = sym (zero-add (prefix_len t bs))
passed_over t [] (suc n) many all = absurd (omega (arith, many))
passed_over t (b ∷ bs) (suc n) many all =
    ap (λ p. cond p (1 + prefix_len t bs) 0) (all 0 b (omega arith))
    ∙ omega (arith, passed_over t bs n (omega (arith, many)) (λ k d less. all (suc k) d (omega (arith, less))))
