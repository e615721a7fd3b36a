-- Where elements are at home.
use Rattle.std.proofs.Common.{◌≡◌, ℕ, zero, suc, ◌<◌, ◌+◌, ◌||◌, Bool, true, false, cond, List, [], ◌∷◌, length, take, get_or, Option, Some, refl, sym, ap, subst, ◌∙◌, arith}
use Rattle.std.specs.Prelude.{IsSome}
use Rattle.std.specs.List.{list_any, AllByRecursion}
use Rattle.std.proofs.lemmas.List.Folds.{list_any_more}
use Rattle.bg_types.specs.Identifier.{Identifier, same_id}
use Rattle.rga_tree.specs.declared.element.Element.{Element}
use Rattle.bg_types.proofs.Interface.{id_cmp-total}
use Rattle.std.specs.Cmp.{eq_by_cmp_equiv}
use Rattle.std.proofs.Common.{rules}
use Rattle.std.proofs.lemmas.Grind.{common_steps}
use Rattle.bg_types.specs.contracts.id.IdPartialEq.TheImpl.{eq-value}

abbrev pub id_eq : Identifier → Identifier → Bool
id_eq = eq-value.it

pub eq_same : (a b : Identifier) → id_eq a b ≡ same_id a b
eq_same a b = search (rules, common_steps)

some_at : (P : Element → Type 0) (es : List Element) (i : ℕ) (d : Element) → AllByRecursion P es → i < length es → P (get_or es i d)
some_at P [] i d all within = absurd (omega arith)
some_at P (x ∷ es) zero d all within = all.0
some_at P (x ∷ es) (suc i) d all within = some_at P es i d all.1 (omega arith)

pub all_at : (P : Element → Type 0) (es : List Element) (i : ℕ) (e : Element) → AllByRecursion P es → i < length es → e ≡ get_or es i e → P e
all_at P es i e all within is = subst P (sym is) (some_at P es i e all within)

pub at_home : (b : Bool) (n : ℕ) (o : Option ℕ) → IsSome o → IsSome (cond b (Some n) o)
at_home true n o h = refl
at_home false n o h = h

or_last : (a b : Bool) (n : ℕ) (o : Option ℕ) → cond b (Some n) (cond a (Some n) o) ≡ cond (a || b) (Some n) o
or_last true true n o = refl
or_last true false n o = refl
or_last false b n o = refl

pub home_step : (old new was : Identifier → Option ℕ) (moved : List Element) (i : ℕ) (e : Element) (n : ℕ) → i < length moved → e ≡ get_or moved i e
    → ((q : Identifier) → old q ≡ cond (list_any (λ e. same_id q e.id) (take i moved)) (Some n) (was q))
    → ((q : Identifier) → new q ≡ cond (same_id q e.id) (Some n) (old q))
    → (q : Identifier) → new q ≡ cond (list_any (λ e. same_id q e.id) (take (i + 1) moved)) (Some n) (was q)
home_step old new was moved i e n within is so_far now q =
    let a = list_any (λ e. same_id q e.id) (take i moved) in
    let more : list_any (λ e. same_id q e.id) (take (i + 1) moved) ≡ (a || same_id q e.id) =
    list_any_more (λ e. same_id q e.id) moved i e within ∙ ap (λ (x : Element). a || same_id q x.id) (sym is) in
    now q ∙ ap (cond (same_id q e.id) (Some n)) (so_far q) ∙ or_last a (same_id q e.id) n (was q) ∙ ap (λ b. cond b (Some n) (was q)) (sym more)

-- the map with one more home
pub put_home : (a b : Identifier) (n : ℕ) (o : Option ℕ) → cond (id_eq a b) (Some n) o ≡ cond (same_id b a) (Some n) o
put_home a b n o = ap (λ t. cond t (Some n) o) (eq_same a b ∙ (eq_by_cmp_equiv id_cmp-total).symm a b)

pub or_false : (b : Bool) → (b || false) ≡ b
or_false true = refl
or_false false = refl

pub swap : (a b : Bool) (m n : ℕ) (o : Option ℕ) → (a ≡ true → b ≡ true → ⊥) → cond a (Some m) (cond b (Some n) o) ≡ cond b (Some n) (cond a (Some m) o)
swap true true m n o apart = absurd (apart refl refl)
swap true false m n o apart = refl
swap false b m n o apart = refl
