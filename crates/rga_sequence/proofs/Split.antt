-- Where identifiers are at home after a split.
use Rattle.std.proofs.Common.{◌≡◌, ℕ, zero, suc, ◌<◌, ◌+◌, ◌||◌, Bool, true, false, cond, List, [], ◌∷◌, ◌++◌, length, get_or, Option, Some, refl, sym, ap, ◌∙◌, arith}
use Rattle.std.specs.Prelude.{insert, set}
use Rattle.std.proofs.lemmas.List.Folds.{list_any-append}
use Rattle.bg_types.specs.Identifier.{Identifier, same_id}
use Rattle.rga_tree.specs.declared.element.Element.{Element}
use Rattle.rga_sequence.specs.BlockRows.{has, home_of}
use Rattle.rga_sequence.specs.Blocks.{joined}
use Rattle.rga_sequence.proofs.Homes.{swap}
use Rattle.std.proofs.lemmas.Bool.{or_left, or_right}

-- no identifier is in both
abbrev pub AreApart : List Element → List Element → Type 0
AreApart x y = (q : Identifier) → has q x ≡ true → has q y ≡ true → ⊥

abbrev pub AreAllApart : List (List Element) → Type 0
AreAllApart [] = Unit {0}
AreAllApart (x ∷ xs) = AreApart x (joined xs) × AreAllApart xs

pub has_joined : (xs : List (List Element)) (i : ℕ) (q : Identifier) → i < length xs → has q (get_or xs i []) ≡ true → has q (joined xs) ≡ true
has_joined [] i q there h = absurd (omega arith)
has_joined (x ∷ xs) zero q there h = list_any-append (λ e. same_id q e.id) x (joined xs) ∙ or_left (has q x) (has q (joined xs)) h
has_joined (x ∷ xs) (suc i) q there h = list_any-append (λ e. same_id q e.id) x (joined xs) ∙ or_right (has q x) (has q (joined xs)) (has_joined xs i q (omega arith) h)

-- its lower half stays where it was
halved : (a b : Bool) (m n : ℕ) (o : Option ℕ) → (a ≡ true → b ≡ true → ⊥) → cond a (Some m) (cond b (Some n) o) ≡ cond b (Some n) (cond (a || b) (Some m) o)
halved true true m n o apart = absurd (apart refl refl)
halved true false m n o apart = refl
halved false true m n o apart = refl
halved false false m n o apart = refl

home_split : (xs : List (List Element)) (ns : List ℕ) (i number : ℕ) (low high : List Element) (q : Identifier) → i < length xs → i < length ns → get_or xs i [] ≡ low ++ high → AreApart low high → AreAllApart xs
    → home_of (insert (set xs i low) (suc i) high) (insert ns (suc i) number) q ≡ cond (has q high) (Some number) (home_of xs ns q)
home_split [] ns i number low high q there numbered is apart all = absurd (omega arith)
home_split (x ∷ xs) [] i number low high q there numbered is apart all = absurd (omega arith)
home_split (x ∷ xs) (n ∷ ns) zero number low high q there numbered is apart all =
    halved (has q low) (has q high) n number (home_of xs ns q) (apart q)
    ∙ ap (λ b. cond (has q high) (Some number) (cond b (Some n) (home_of xs ns q))) (sym (ap (has q) is ∙ list_any-append (λ e. same_id q e.id) low high))
home_split (x ∷ xs) (n ∷ ns) (suc i) number low high q there numbered is apart all =
    let inside : has q high ≡ true → has q (joined xs) ≡ true =
    λ h. has_joined xs i q (omega arith) (ap (has q) is ∙ list_any-append (λ e. same_id q e.id) low high ∙ or_right (has q low) (has q high) h) in
    ap (cond (has q x) (Some n)) (home_split xs ns i number low high q (omega arith) (omega arith) is apart all.1)
    ∙ swap (has q x) (has q high) n number (home_of xs ns q) (λ a b. all.0 q a (inside b))

-- the same with the place after as a sum
pub home_split-at : (xs : List (List Element)) (ns : List ℕ) (i number : ℕ) (low high : List Element) (q : Identifier) → i < length xs → i < length ns → get_or xs i [] ≡ low ++ high → AreApart low high → AreAllApart xs
    → home_of (insert (set xs i low) (i + 1) high) (insert ns (i + 1) number) q ≡ cond (has q high) (Some number) (home_of xs ns q)
home_split-at xs ns i number low high q there numbered is apart all = let s : i + 1 ≡ suc i = omega arith in rw s (home_split xs ns i number low high q there numbered is apart all)
