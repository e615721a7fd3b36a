-- Least identifiers.
use Rattle.std.proofs.Common.{◌≡◌, ℕ, ◌<◌, ◌+◌, ◌&&◌, Bool, true, false, not, List, [], ◌∷◌, length, take, get_or, refl, sym, ap, ◌∙◌}
use Rattle.std.specs.Ordering.{is_lt}
use Rattle.std.specs.Cmp.{tied_itself}
use Rattle.std.specs.List.{list_any}
use Rattle.std.proofs.lemmas.List.Folds.{list_all_more, list_any_at}
use Rattle.bg_types.specs.Identifier.{Identifier, id_cmp, same_id}
use Rattle.rga_tree.specs.declared.element.Element.{Element}
use Rattle.rga_sequence.specs.Blocks.{none_below}
use Rattle.bg_types.proofs.Interface.{id_cmp-total, same_id-itself}
use Rattle.std.proofs.lemmas.Bool.{and_parts}
use Rattle.rga_tree.proofs.Interface.{less_of}

-- what isn't below something isn't below what is smaller
not_below : (x m n : Identifier) → not (is_lt (id_cmp x m)) ≡ true → is_lt (id_cmp n m) ≡ true → not (is_lt (id_cmp x n)) ≡ true
not_below x m n h lt = by_test (is_lt (id_cmp x n)) refl where
  by_test : (b : Bool) → is_lt (id_cmp x n) ≡ b → not b ≡ true
  by_test false is = refl
  by_test true is = let e : is_lt (id_cmp x m) ≡ true = ap is_lt (id_cmp-total.trans x n m (less_of (id_cmp x n) is) (less_of (id_cmp n m) lt)) in absurd cc

pub lower : (m n : Identifier) (es : List Element) → none_below m es ≡ true → is_lt (id_cmp n m) ≡ true → none_below n es ≡ true
lower m n [] h lt = refl
lower m n (e ∷ es) h lt =
    let p = and_parts (not (is_lt (id_cmp e.id m))) (none_below m es) h in
    λ i. sym (sym (λ j. not_below e.id m n p.0 lt j && lower m n es p.1 lt j)) i

pub not_itself : (a : Identifier) → not (is_lt (id_cmp a a)) ≡ true
not_itself a = ap (λ o. not (is_lt o)) (tied_itself id_cmp-total a)

-- one more element of the row, which is smaller or isn't
pub least_lower : (row : List Element) (i : ℕ) (m : Identifier) (e : Element) → i < length row → e ≡ get_or row i e → none_below m (take i row) ≡ true → is_lt (id_cmp e.id m) ≡ true
    → (none_below e.id (take (i + 1) row) ≡ true) × (list_any (λ x. same_id e.id x.id) row ≡ true)
least_lower row i m e within is below lt = (
  list_all_more (λ x. not (is_lt (id_cmp x.id e.id))) row i e within
      ∙ (λ j. lower m e.id (take i row) below lt j && (ap (λ (x : Element). not (is_lt (id_cmp x.id e.id))) (sym is) ∙ not_itself e.id) j),
  list_any_at (λ x. same_id e.id x.id) row i e within (ap (λ (x : Element). same_id e.id x.id) (sym is) ∙ same_id-itself e.id),
)

pub least_stays : (row : List Element) (i : ℕ) (m : Identifier) (e : Element) → i < length row → e ≡ get_or row i e → none_below m (take i row) ≡ true → is_lt (id_cmp e.id m) ≡ false
    → none_below m (take (i + 1) row) ≡ true
least_stays row i m e within is below ge =
    list_all_more (λ x. not (is_lt (id_cmp x.id m))) row i e within
    ∙ (λ j. below j && (ap (λ (x : Element). not (is_lt (id_cmp x.id m))) (sym is) ∙ ap not ge) j)
