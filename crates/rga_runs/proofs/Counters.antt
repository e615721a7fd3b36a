-- Rows whose elements have no greater counter.
use Rattle.std.proofs.Common.{◌≡◌, ℕ, zero, suc, ◌<◌, ◌≤◌, ◌||◌, Bool, true, false, not, List, [], ◌∷◌, length, get_or, refl, ap, ◌∙◌, arith}
use Rattle.std.specs.Prelude.{insert, set, nat_lt}
use Rattle.std.proofs.lemmas.Bool.{ltb-false, and_parts, and_from}
use Rattle.bg_types.specs.Identifier.{Identifier, same_id}
use Rattle.bg_types.proofs.Interface.{same_id-is}
use Rattle.rga_tree.specs.declared.element.Element.{Element}
use Rattle.rga_tree.specs.Row.{has}
use Rattle.rga_runs.specs.Counters.{are_up_to}
use Rattle.rga_runs.proofs.Keyed.{ltb_ge}

pub fits : (n c : ℕ) → c ≤ n → not (nat_lt n c) ≡ true
fits n c le = ap not (ltb_ge n c le)

fitting : (n c : ℕ) → not (nat_lt n c) ≡ true → c ≤ n
fitting n c h = by_test (nat_lt n c) refl h where
  by_test : (b : Bool) → nat_lt n c ≡ b → not b ≡ true → c ≤ n
  by_test true is h = absurd cc
  by_test false is h = ltb-false n c is

pub up_more : (m n : ℕ) (es : List Element) → m ≤ n → are_up_to m es ≡ true → are_up_to n es ≡ true
up_more m n [] le h = refl
up_more m n (e ∷ es) le h =
    let p = and_parts (not (nat_lt m e.id.counter)) (are_up_to m es) h in
    and_from (not (nat_lt n e.id.counter)) (are_up_to n es) (fits n e.id.counter (omega (arith, le, fitting m e.id.counter p.0))) (up_more m n es le p.1)

pub up_insert : (n : ℕ) (es : List Element) (i : ℕ) (e : Element) → are_up_to n es ≡ true → e.id.counter ≤ n → are_up_to n (insert es i e) ≡ true
up_insert n [] zero e h le = and_from (not (nat_lt n e.id.counter)) true (fits n e.id.counter le) refl
up_insert n [] (suc i) e h le = and_from (not (nat_lt n e.id.counter)) true (fits n e.id.counter le) refl
up_insert n (x ∷ es) zero e h le = and_from (not (nat_lt n e.id.counter)) (are_up_to n (x ∷ es)) (fits n e.id.counter le) h
up_insert n (x ∷ es) (suc i) e h le =
    let p = and_parts (not (nat_lt n x.id.counter)) (are_up_to n es) h in
    and_from (not (nat_lt n x.id.counter)) (are_up_to n (insert es i e)) p.0 (up_insert n es i e p.1 le)

pub up_set : (n : ℕ) (es : List Element) (i : ℕ) (e : Element) → are_up_to n es ≡ true → e.id.counter ≤ n → are_up_to n (set es i e) ≡ true
up_set n [] zero e h le = refl
up_set n [] (suc i) e h le = refl
up_set n (x ∷ es) zero e h le =
    let p = and_parts (not (nat_lt n x.id.counter)) (are_up_to n es) h in
    and_from (not (nat_lt n e.id.counter)) (are_up_to n es) (fits n e.id.counter le) p.1
up_set n (x ∷ es) (suc i) e h le =
    let p = and_parts (not (nat_lt n x.id.counter)) (are_up_to n es) h in
    and_from (not (nat_lt n x.id.counter)) (are_up_to n (set es i e)) p.0 (up_set n es i e p.1 le)

pub up_at : (n : ℕ) (es : List Element) (i : ℕ) (d : Element) → are_up_to n es ≡ true → i < length es → (get_or es i d).id.counter ≤ n
up_at n [] i d h there = absurd (omega (arith, there))
up_at n (x ∷ es) zero d h there = fitting n x.id.counter (and_parts (not (nat_lt n x.id.counter)) (are_up_to n es) h).0
up_at n (x ∷ es) (suc i) d h there = up_at n es i d (and_parts (not (nat_lt n x.id.counter)) (are_up_to n es) h).1 (omega (arith, there))

-- an identifier with a greater one is of none
pub above_all : (q : Identifier) (n : ℕ) (es : List Element) → are_up_to n es ≡ true → n < q.counter → has q es ≡ false
above_all q n [] h above = refl
above_all q n (e ∷ es) h above =
    let p = and_parts (not (nat_lt n e.id.counter)) (are_up_to n es) h in
    by_first (same_id q e.id) refl (above_all q n es p.1 above) (fitting n e.id.counter p.0) where
      by_first : (b : Bool) → same_id q e.id ≡ b → has q es ≡ false → e.id.counter ≤ n → (same_id q e.id || has q es) ≡ false
      by_first true is none le = let same = ap (λ (i : Identifier). i.counter) (same_id-is q e.id is) in absurd (omega (arith, same, le, above))
      by_first false is none le = ap (λ b. b || has q es) is ∙ none
