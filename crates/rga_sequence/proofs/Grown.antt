-- A block with one more element.
use Rattle.std.proofs.Common.{◌≡◌, ℕ, ◌≤◌, ◌||◌, Bool, true, false, cond, not, List, [], ◌∷◌, ◌++◌, length, take, drop, refl, ap, ◌∙◌, arith}
use Rattle.std.specs.Prelude.{insert}
use Rattle.std.specs.Ordering.{is_lt}
use Rattle.std.specs.List.{list_all, list_any}
use Rattle.std.proofs.lemmas.List.{take-append-drop}
use Rattle.std.proofs.lemmas.List.Sums.{count_by-le-length}
use Rattle.bg_types.specs.Identifier.{Identifier, id_cmp, same_id}
use Rattle.bg_types.proofs.Interface.{same_id-itself}
use Rattle.rga_tree.specs.declared.element.Element.{Element}
use Rattle.rga_tree.proofs.Interface.{seen_by}
use Rattle.rga_sequence.specs.Blocks.{seen, none_below, is_least}
use Rattle.rga_sequence.proofs.Least.{lower, not_itself}
use Rattle.std.proofs.lemmas.Bool.{and_from, and_parts}

pub seen_le : (es : List Element) → seen es ≤ length es
seen_le es = omega (arith, seen_by es, count_by-le-length (λ (e : Element). not e.hidden) es)

pub all_with : (p : Element → Bool) (l r : List Element) (n : Element) → p n ≡ true → list_all p (l ++ r) ≡ true → list_all p (l ++ n ∷ r) ≡ true
all_with p [] r n here rest = and_from (p n) (list_all p r) here rest
all_with p (x ∷ l) r n here rest = let q = and_parts (p x) (list_all p (l ++ r)) rest in and_from (p x) (list_all p (l ++ n ∷ r)) q.0 (all_with p l r n here q.1)

any_here : (p : Element → Bool) (l r : List Element) (n : Element) → p n ≡ true → list_any p (l ++ n ∷ r) ≡ true
any_here p [] r n here = ap (λ b. b || list_any p r) here
any_here p (x ∷ l) r n here = elim (p x) as (λ b. (b || list_any p (l ++ n ∷ r)) ≡ true) [ true ↦ refl | false ↦ any_here p l r n here ]

any_kept : (p : Element → Bool) (l r : List Element) (n : Element) → list_any p (l ++ r) ≡ true → list_any p (l ++ n ∷ r) ≡ true
any_kept p [] r n there = elim (p n) as (λ b. (b || list_any p r) ≡ true) [ true ↦ refl | false ↦ there ]
any_kept p (x ∷ l) r n there =
    let rest = any_kept p l r n in
    elim (p x) as (λ b. (b || list_any p (l ++ r)) ≡ true → (b || list_any p (l ++ n ∷ r)) ≡ true) [ true ↦ λ _. refl | false ↦ rest ] there

pub least-insert : (es : List Element) (i : ℕ) (n : Element) (m : Identifier) → is_least m es ≡ true → is_least (cond (is_lt (id_cmp n.id m)) n.id m) (insert es i n) ≡ true
least-insert es i n m h = by_test (is_lt (id_cmp n.id m)) refl where
  by_test : (b : Bool) → is_lt (id_cmp n.id m) ≡ b → is_least (cond b n.id m) (insert es i n) ≡ true
  by_test true lt =
      let p = and_parts (none_below m es) (list_any (λ e. same_id m e.id) es) h in
      let low = lower m n.id es p.0 lt in
      let whole = take-append-drop i es in
      and_from (none_below n.id (insert es i n)) (list_any (λ e. same_id n.id e.id) (insert es i n))
      (all_with (λ e. not (is_lt (id_cmp e.id n.id))) (take i es) (drop i es) n (not_itself n.id) (ap (none_below n.id) whole ∙ low))
      (any_here (λ e. same_id n.id e.id) (take i es) (drop i es) n (same_id-itself n.id))
  by_test false ge =
      let p = and_parts (none_below m es) (list_any (λ e. same_id m e.id) es) h in
      let whole = take-append-drop i es in
      and_from (none_below m (insert es i n)) (list_any (λ e. same_id m e.id) (insert es i n))
      (all_with (λ e. not (is_lt (id_cmp e.id m))) (take i es) (drop i es) n (ap not ge) (ap (none_below m) whole ∙ p.0))
      (any_kept (λ e. same_id m e.id) (take i es) (drop i es) n (ap (list_any (λ e. same_id m e.id)) whole ∙ p.1))
