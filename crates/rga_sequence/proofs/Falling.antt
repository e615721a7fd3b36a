-- Rows in which identifiers fall.
use Rattle.std.proofs.Common.{◌≡◌, ℕ, zero, suc, ◌<◌, ◌≤◌, ◌+◌, ◌-◌, Bool, true, false, List, [], ◌∷◌, length, take, drop, get_or, refl, sym, ap, ◌∙◌, length-drop, length-set, arith}
use Rattle.std.specs.Prelude.{insert, set, nat_lt}
use Rattle.std.proofs.lemmas.Bool.{ltb-true, ltb-false}
use Rattle.std.proofs.lemmas.List.{get_or-take, get_or-drop, length-take-le}
use Rattle.std.proofs.lemmas.List.Edits.{get_or-insert_below, get_or-insert_at, get_or-insert_above, length-insert}
use Rattle.std.specs.Ordering.{is_lt}
use Rattle.bg_types.specs.Identifier.{Identifier, id_cmp}
use Rattle.bg_types.proofs.Interface.{id_cmp-total}
use Rattle.rga_tree.specs.declared.element.Element.{Element}
use Rattle.rga_sequence.specs.Blocks.{FallsFrom}
use Rattle.rga_sequence.proofs.Shown.{hidden_at}
use Rattle.rga_tree.proofs.Interface.{less_of, is_greater}

from_before : (at from to k : ℕ) → from ≤ to → (at < to → from < to) → to ≤ k → at < k → from ≤ k - 1
from_before at from to k low shifted there less = by_shift (nat_lt at to) refl where
  by_shift : (b : Bool) → nat_lt at to ≡ b → from ≤ k - 1
  by_shift true is = let more : from < to = shifted (ltb-true _ _ is) in omega (arith, more, there)
  by_shift false is = let past : to ≤ at = ltb-false _ _ is in omega (arith, past, low, less)

-- one more element, below the one before it and above the one after it, where those are of the part that falls
pub falls-insert : (es : List Element) (at from to : ℕ) (n : Element) → at ≤ length es → FallsFrom from es → from ≤ to → (at < to → from < to)
    → ((d : Element) → to < at → is_lt (id_cmp n.id (get_or es (at - 1) d).id) ≡ true)
    → ((d : Element) → to ≤ at → at < length es → is_lt (id_cmp (get_or es at d).id n.id) ≡ true)
    → (k : ℕ) (d : Element) → to ≤ k → k + 1 < length (insert es at n) → is_lt (id_cmp (get_or (insert es at n) (k + 1) d).id (get_or (insert es at n) k d).id) ≡ true
falls-insert es at from to n within falls low shifted before after k d there more = by_place (nat_lt (k + 1) at) refl (nat_lt k at) refl (nat_lt at k) refl where
  all : k + 1 < length es + 1
  all = omega (arith, more, length-insert es at n within)

  by_place : (b : Bool) → nat_lt (k + 1) at ≡ b → (c : Bool) → nat_lt k at ≡ c → (e : Bool) → nat_lt at k ≡ e → is_lt (id_cmp (get_or (insert es at n) (k + 1) d).id (get_or (insert es at n) k d).id) ≡ true
  by_place true is c _ e _ =
      let less : k + 1 < at = ltb-true _ _ is in
      let here = get_or-insert_below es at n d k (omega (arith, less)) within in
      let next = get_or-insert_below es at n d (k + 1) less within in
      (λ i. is_lt (id_cmp (next i).id (here i).id)) ∙ falls k d (omega (arith, low, there)) (omega (arith, less, within))
  by_place false is true before_is e _ =
      let less : k < at = ltb-true _ _ before_is in
      let last : k + 1 ≡ at = let not_more : at ≤ k + 1 = ltb-false _ _ is in omega (arith, less, not_more) in
      let prior : at - 1 ≡ k = omega (arith, last) in
      let here = get_or-insert_below es at n d k less within in
      let next = ap (λ m. get_or (insert es at n) m d) last ∙ get_or-insert_at es at n d within in
      (λ i. is_lt (id_cmp (next i).id (here i).id)) ∙ ap (λ m. is_lt (id_cmp n.id (get_or es m d).id)) (sym prior) ∙ before d (omega (arith, there, less))
  by_place false is false not_before true after_is =
      let less : at < k = ltb-true _ _ after_is in
      let m : ℕ = k - 1 in
      let k_is : k ≡ m + 1 = omega (arith, less) in
      let here = ap (λ z. get_or (insert es at n) z d) k_is ∙ get_or-insert_above es at n d m (omega (arith, less)) within in
      let next = get_or-insert_above es at n d k (omega (arith, less)) within ∙ ap (λ z. get_or es z d) k_is in
      (λ i. is_lt (id_cmp (next i).id (here i).id)) ∙ falls m d (from_before at from to k low shifted there less) (omega (arith, all, k_is))
  by_place false is false not_before false not_after =
      let some : at ≤ k = ltb-false _ _ not_before in
      let few : k ≤ at = ltb-false _ _ not_after in
      let same : k ≡ at = omega (arith, some, few) in
      let here = ap (λ z. get_or (insert es at n) z d) same ∙ get_or-insert_at es at n d within in
      let next = get_or-insert_above es at n d k some within ∙ ap (λ z. get_or es z d) same in
      (λ i. is_lt (id_cmp (next i).id (here i).id)) ∙ after d (omega (arith, there, same)) (omega (arith, all, same))

-- a part that falls in its own place
pub falls-take : (es : List Element) (from to m : ℕ) → FallsFrom from es → m ≤ length es → (to < m → from ≤ to)
    → (k : ℕ) (d : Element) → to ≤ k → k + 1 < length (take m es) → is_lt (id_cmp (get_or (take m es) (k + 1) d).id (get_or (take m es) k d).id) ≡ true
falls-take es from to m falls many low k d there more =
    let few : k + 1 < m = omega (arith, more, length-take-le m es many) in
    let here = get_or-take m es k d (omega (arith, few)) in
    let next = get_or-take m es (k + 1) d few in
    (λ i. is_lt (id_cmp (next i).id (here i).id)) ∙ falls k d (omega (arith, low (omega (arith, there, few)), there)) (omega (arith, few, many))

pub falls-drop : (es : List Element) (from to m : ℕ) → FallsFrom from es → from ≤ m + to
    → (k : ℕ) (d : Element) → to ≤ k → k + 1 < length (drop m es) → is_lt (id_cmp (get_or (drop m es) (k + 1) d).id (get_or (drop m es) k d).id) ≡ true
falls-drop es from to m falls low k d there more =
    let here = get_or-drop m es k d in
    let s : m + (k + 1) ≡ m + k + 1 = omega arith in
    let next = get_or-drop m es (k + 1) d ∙ ap (λ z. get_or es z d) s in
    (λ i. is_lt (id_cmp (next i).id (here i).id)) ∙ falls (m + k) d (omega (arith, low, there)) (omega (arith, more, length-drop m es))

id-hide : (es : List Element) (at k : ℕ) (e d : Element) → (get_or (set es at (hidden_at es at e)) k d).id ≡ (get_or es k d).id
id-hide [] zero k e d = refl
id-hide [] (suc at) k e d = refl
id-hide (x ∷ es) zero zero e d = refl
id-hide (x ∷ es) zero (suc k) e d = refl
id-hide (x ∷ es) (suc at) zero e d = refl
id-hide (x ∷ es) (suc at) (suc k) e d = id-hide es at k e d

pub falls-hide : (es : List Element) (at from : ℕ) (e : Element) → FallsFrom from es
    → (k : ℕ) (d : Element) → from ≤ k → k + 1 < length (set es at (hidden_at es at e)) → is_lt (id_cmp (get_or (set es at (hidden_at es at e)) (k + 1) d).id (get_or (set es at (hidden_at es at e)) k d).id) ≡ true
falls-hide es at from e falls k d there more =
    (λ i. is_lt (id_cmp (id-hide es at (k + 1) e d i) (id-hide es at k e d i))) ∙ falls k d there (omega (arith, more, length-set es at (hidden_at es at e)))

-- what is before a greater one is greater
falls-back : (es : List Element) (id : Identifier) → FallsFrom 0 es → (i n : ℕ) (d : Element) → i + n < length es → is_greater id (get_or es (i + n) d) ≡ true → is_greater id (get_or es i d) ≡ true
falls-back es id falls i zero d there h = let s : i + 0 ≡ i = omega arith in ap (λ k. is_greater id (get_or es k d)) (sym s) ∙ h
falls-back es id falls i (suc n) d there h =
    let s : i + suc n ≡ i + n + 1 = omega arith in
    let next = falls (i + n) d (omega arith) (omega (arith, there)) in
    let high : is_greater id (get_or es (i + n + 1) d) ≡ true = ap (λ k. is_greater id (get_or es k d)) (sym s) ∙ h in
    falls-back es id falls i n d (omega (arith, there))
    (ap is_lt (id_cmp-total.trans id (get_or es (i + n + 1) d).id (get_or es (i + n) d).id (less_of (id_cmp id (get_or es (i + n + 1) d).id) high) (less_of (id_cmp (get_or es (i + n + 1) d).id (get_or es (i + n) d).id) next)))

pub falls-parted : (es : List Element) (id : Identifier) → FallsFrom 0 es → (i j : ℕ) (d : Element) → i ≤ j → j < length es → is_greater id (get_or es j d) ≡ true → is_greater id (get_or es i d) ≡ true
falls-parted es id falls i j d low there h =
    let s : i + (j - i) ≡ j = omega (arith, low) in
    falls-back es id falls i (j - i) d (omega (arith, s, there)) (ap (λ k. is_greater id (get_or es k d)) s ∙ h)
