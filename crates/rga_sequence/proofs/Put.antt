-- Where identifiers are at home with one more element.
use Rattle.std.proofs.Common.{◌≡◌, ℕ, zero, suc, ◌<◌, ◌||◌, Bool, true, false, cond, List, [], ◌∷◌, length, get_or, Option, Some, refl, sym, ap, subst, ◌∙◌, arith}
use Rattle.std.specs.Prelude.{insert, set}
use Rattle.std.proofs.lemmas.List.Folds.{list_any-append}
use Rattle.bg_types.specs.Identifier.{Identifier, same_id}
use Rattle.bg_types.proofs.Interface.{same_id-is}
use Rattle.rga_tree.specs.declared.element.Element.{Element}
use Rattle.rga_sequence.specs.Blocks.{joined}
use Rattle.rga_sequence.specs.BlockRows.{has, home_of}
use Rattle.rga_sequence.proofs.Homes.{swap}
use Rattle.rga_sequence.proofs.Members.{has-inserted}
use Rattle.std.proofs.lemmas.Bool.{or_parts}

or_else : (a b : Bool) (n : ℕ) (o : Option ℕ) → cond (a || b) (Some n) o ≡ cond a (Some n) (cond b (Some n) o)
or_else true b n o = refl
or_else false b n o = refl

pub home_put : (xs : List (List Element)) (ns : List ℕ) (i at : ℕ) (n : Element) (q : Identifier) → i < length xs → length xs ≡ length ns → has n.id (joined xs) ≡ false
    → home_of (set xs i (insert (get_or xs i []) at n)) ns q ≡ cond (same_id q n.id) (Some (get_or ns i 0)) (home_of xs ns q)
home_put [] ns i at n q there many new = absurd (omega arith)
home_put (x ∷ xs) [] i at n q there many new = absurd (omega arith)
home_put (x ∷ xs) (m ∷ ns) zero at n q there many new =
    ap (λ b. cond b (Some m) (home_of xs ns q)) (has-inserted x at n q) ∙ or_else (same_id q n.id) (has q x) m (home_of xs ns q)
home_put (x ∷ xs) (m ∷ ns) (suc i) at n q there many new =
    let parts = or_parts (has n.id x) (has n.id (joined xs)) (sym (list_any-append (λ e. same_id n.id e.id) x (joined xs)) ∙ new) in
    ap (cond (has q x) (Some m)) (home_put xs ns i at n q (omega arith) (omega arith) parts.1)
    ∙ swap (has q x) (same_id q n.id) m (get_or ns i 0) (home_of xs ns q)
    (λ inside same. let out : has q x ≡ false = subst (λ k. has k x ≡ false) (sym (same_id-is q n.id same)) parts.0 in absurd cc)

-- a hidden element stays at home
pub home_kept : (xs : List (List Element)) (ns : List ℕ) (i : ℕ) (y : List Element) (q : Identifier) → ((k : Identifier) → has k y ≡ has k (get_or xs i [])) → i < length xs → home_of (set xs i y) ns q ≡ home_of xs ns q
home_kept [] ns i y q same there = absurd (omega arith)
home_kept (x ∷ xs) [] zero y q same there = refl
home_kept (x ∷ xs) [] (suc i) y q same there = refl
home_kept (x ∷ xs) (m ∷ ns) zero y q same there = ap (λ b. cond b (Some m) (home_of xs ns q)) (same q)
home_kept (x ∷ xs) (m ∷ ns) (suc i) y q same there = ap (cond (has q x) (Some m)) (home_kept xs ns i y q same (omega arith))
