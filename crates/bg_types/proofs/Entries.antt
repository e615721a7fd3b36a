-- The entries of a finite map by identifier: each is there once, and is found.
use Rattle.std.proofs.Common.{◌≡◌, Bool, true, false, cond, T, List, [], ◌∷◌, Some, refl, ap, ◌∙◌}
use Rattle.std.specs.Prelude.{◌&&◌}
use Rattle.std.specs.Ordering.{is_lt, is_eq, ordering_reverse}
use Rattle.std.specs.declared.cmp.Ordering.{Ordering}
use Rattle.std.specs.declared.cmp.Ordering.TheVariants.{Less, Equal, Greater}
use Rattle.std.specs.List.{AllByRecursion}
use Rattle.std.specs.FinMap as map
use Rattle.std.specs.FinMap.Entries.{find, below_all, is_sorted}
use Rattle.bg_types.specs.Identifier.{Identifier, id_cmp}
use Rattle.bg_types.proofs.IdentifierOrder.{id_cmp-total, same_id-itself}

pub all_weaker : {A : Type 0} (P Q : A → Type 0) → ((x : A) → P x → Q x) → (xs : List A) → AllByRecursion P xs → AllByRecursion Q xs
all_weaker P Q f [] h = tt
all_weaker P Q f (x ∷ xs) h = (f x h.0, all_weaker P Q f xs h.1)

pub all_both : {A : Type 0} (P Q : A → Type 0) (xs : List A) → AllByRecursion P xs → AllByRecursion Q xs → AllByRecursion (λ x. P x × Q x) xs
all_both P Q [] p q = tt
all_both P Q (x ∷ xs) p q = ((p.0, q.0), all_both P Q xs p.1 q.1)

less_of : (o : Ordering) → T (is_lt o) → o ≡ Less
less_of Less h = refl
less_of Equal h = absurd h
less_of Greater h = absurd h

pub both_of : (a b : Bool) → T (a && b) → T a × T b
both_of true b h = (tt, h)
both_of false b h = absurd h

module _ {X : Type 0} where
  pub above_of : (k : Identifier) (es : List (Identifier × X)) → T (below_all id_cmp k es) → AllByRecursion (λ e. id_cmp k e.0 ≡ Less) es
  above_of k [] h = tt
  above_of k (e ∷ es) h = let p = both_of (is_lt (id_cmp k e.0)) (below_all id_cmp k es) h in (less_of (id_cmp k e.0) p.0, above_of k es p.1)

  -- each entry of a rising list is found at its identifier
  found_each : (es : List (Identifier × X)) → T (is_sorted id_cmp es) → AllByRecursion (λ e. find id_cmp e.0 es ≡ Some e.1) es
  found_each [] h = tt
  found_each (x ∷ es) h =
      let p = both_of (below_all id_cmp x.0 es) (is_sorted id_cmp es) h in
      let later = λ (e : Identifier × X) (q : (id_cmp x.0 e.0 ≡ Less) × (find id_cmp e.0 es ≡ Some e.1)).
      ap (λ o. cond (is_eq o) (Some x.1) (find id_cmp e.0 es)) (id_cmp-total.antisymm e.0 x.0 ∙ ap ordering_reverse q.0) ∙ q.1 in (
        ap (λ b. cond b (Some x.1) (find id_cmp x.0 es)) (same_id-itself x.0),
        all_weaker (λ e. (id_cmp x.0 e.0 ≡ Less) × (find id_cmp e.0 es ≡ Some e.1)) (λ e. find id_cmp e.0 (x ∷ es) ≡ Some e.1) later es
            (all_both (λ e. id_cmp x.0 e.0 ≡ Less) (λ e. find id_cmp e.0 es ≡ Some e.1) es (above_of x.0 es p.0) (found_each es p.1)),
      )

  pub entries-found : (m : map.FinMap id_cmp X) → AllByRecursion (λ e. map.get m e.0 ≡ Some e.1) (map.entries m)
  entries-found m = all_weaker (λ e. find id_cmp e.0 (map.entries m) ≡ Some e.1) (λ e. map.get m e.0 ≡ Some e.1) (λ e found. map.get-entries m e.0 ∙ found) (map.entries m)
      (found_each (map.entries m) (map.entries_sorted m))
