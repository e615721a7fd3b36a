-- How many elements of a row stand before the one with an identifier.
use Rattle.std.proofs.Common.{◌≡◌, ℕ, zero, suc, ◌<◌, ◌+◌, ◌||◌, true, false, cond, not, List, [], ◌∷◌, ◌++◌, length, take, get_or, Some, None, refl, sym, ap, ◌∙◌, zero-add, length-append, arith}
use Rattle.std.specs.Prelude.{slice_get}
use Rattle.std.specs.List.{prefix_len, find as find_in}
use Rattle.std.proofs.lemmas.Bool.{or_parts}
use Rattle.std.proofs.lemmas.List.{get_or_default}
use Rattle.std.proofs.lemmas.List.Folds.{list_any-append}
use Rattle.bg_types.specs.Identifier.{Identifier, same_id}
use Rattle.rga_tree.specs.declared.element.Element.{Element}
use Rattle.rga_tree.specs.Row.{has}
use Rattle.rga_tree.specs.Spot.{joined, offset}

abbrev pub until : Identifier → List Element → ℕ
until q es = prefix_len (λ e. not (same_id q e.id)) es

pub until_none : (q : Identifier) (es : List Element) → has q es ≡ false → until q es ≡ length es
until_none q [] h = refl
until_none q (e ∷ es) h =
    let p = or_parts (same_id q e.id) (has q es) h in
    let rest = until_none q es p.1 in
    ap (λ b. cond (not b) (1 + until q es) 0) p.0 ∙ omega (arith, rest)

pub until_some : (q : Identifier) (es : List Element) → has q es ≡ true → until q es < length es
until_some q [] h = absurd cc
until_some q (e ∷ es) h =
    let rest = until_some q es in
    elim (same_id q e.id) as (λ b. (b || has q es) ≡ true → cond (not b) (1 + until q es) 0 < length (e ∷ es)) [
      | true ↦ λ _. omega arith
      | false ↦ λ h. omega (arith, rest h)
    ] h

until-past : (q : Identifier) (x y : List Element) → has q x ≡ false → until q (x ++ y) ≡ length x + until q y
until-past q [] y h = sym (zero-add (until q y))
until-past q (e ∷ x) y h =
    let p = or_parts (same_id q e.id) (has q x) h in
    let rest = until-past q x y p.1 in
    ap (λ b. cond (not b) (1 + until q (x ++ y)) 0) p.0 ∙ omega (arith, rest)

until-in : (q : Identifier) (x y : List Element) → has q x ≡ true → until q (x ++ y) ≡ until q x
until-in q [] y h = absurd cc
until-in q (e ∷ x) y h =
    let rest = until-in q x y in
    elim (same_id q e.id) as (λ b. (b || has q x) ≡ true → cond (not b) (1 + until q (x ++ y)) 0 ≡ cond (not b) (1 + until q x) 0) [
      | true ↦ λ _. refl
      | false ↦ λ h. ap (λ n. 1 + n) (rest h)
    ] h

-- it stands in the first part that has it
pub until-first : (xs : List (List Element)) (p : ℕ) (q : Identifier) → p < length xs → has q (get_or xs p []) ≡ true → has q (joined (take p xs)) ≡ false
    → offset xs p (until q (get_or xs p [])) ≡ until q (joined xs)
until-first [] p q there inside before = absurd (omega arith)
until-first (x ∷ xs) zero q there inside before = zero-add (until q x) ∙ sym (until-in q x (joined xs) inside)
until-first (x ∷ xs) (suc p) q there inside before =
    let parts = or_parts (has q x) (has q (joined (take p xs))) (sym (list_any-append (λ e. same_id q e.id) x (joined (take p xs))) ∙ before) in
    let rest = until-first xs p q (omega arith) inside parts.1 in
    omega (arith, until-past q x (joined xs) parts.0, rest, length-append x (joined (take p xs)))

-- what stands there
pub find-until : (q : Identifier) (es : List Element) → has q es ≡ true → find_in (λ e. same_id q e.id) es ≡ slice_get es (until q es)
find-until q [] h = absurd cc
find-until q (e ∷ es) h =
    let rest = find-until q es in
    let s : 1 + until q es ≡ suc (until q es) = omega arith in
    elim (same_id q e.id) as (λ b. (b || has q es) ≡ true → cond b (Some e) (find_in (λ e. same_id q e.id) es) ≡ slice_get (e ∷ es) (cond (not b) (1 + until q es) 0)) [
      | true ↦ λ _. refl
      | false ↦ λ h. rest h ∙ ap (slice_get (e ∷ es)) (sym s)
    ] h

pub find_none : (q : Identifier) (es : List Element) → has q es ≡ false → find_in (λ e. same_id q e.id) es ≡ None
find_none q [] h = refl
find_none q (e ∷ es) h =
    let p = or_parts (same_id q e.id) (has q es) h in
    ap (λ b. cond b (Some e) (find_in (λ e. same_id q e.id) es)) p.0 ∙ find_none q es p.1

pub any_default : (es : List Element) (i : ℕ) (d : Element) → i < length es → get_or es i d ≡ get_or es i (get_or es i d)
any_default es i d h = get_or_default es i d (get_or es i d) h
