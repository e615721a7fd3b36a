-- How many elements of a row, and of parts of it, are visible.
use Rattle.std.proofs.Common.{◌≡◌, ℕ, zero, suc, ◌<◌, ◌≤◌, ◌+◌, Bool, true, false, cond, not, List, [], ◌∷◌, ◌++◌, length, take, get_or, refl, sym, ap, ◌∙◌, zero-add, length-append, arith}
use Rattle.std.proofs.Math.Seq.{take-append-add}
use Rattle.std.proofs.lemmas.List.{take-append-le}
use Rattle.std.proofs.lemmas.List.Elements.{filter-append}
use Rattle.std.proofs.lemmas.List.Sums.{length-filter, sum_by-insert}
use Rattle.std.specs.Prelude.{count_by, filter, insert}
use Rattle.bg_types.specs.Identifier.{Identifier}
use Rattle.rga_tree.specs.declared.element.Element.{Element}
use Rattle.rga_tree.specs.Spot.{seen, seen_all, joined, offset}
use Rattle.rga_tree.proofs.Until.{until}

pub seen_by : (es : List Element) → seen es ≡ count_by (λ e. not e.hidden) es
seen_by es = length-filter (λ (e : Element). not e.hidden) es

-- an element counts as one, unless it is hidden
pub shown_weight : (h : Bool) → ◌≡◌ {A = ℕ} (cond (not h) 1 0) (cond h 0 1)
shown_weight true = refl
shown_weight false = refl

pub weight_le : (h : Bool) → cond h 0 1 ≤ 1
weight_le true = omega arith
weight_le false = omega arith

pub seen-insert : (es : List Element) (i : ℕ) (n : Element) → seen (insert es i n) ≡ seen es + cond n.hidden 0 1
seen-insert es i n = omega (arith, seen_by (insert es i n), seen_by es, sum_by-insert (λ (e : Element). cond (not e.hidden) 1 0) es i n, shown_weight n.hidden)

pub seen-append : (x y : List Element) → seen (x ++ y) ≡ seen x + seen y
seen-append x y =
    let shown : Element → Bool = λ e. not e.hidden in
    ap length (filter-append shown x y) ∙ length-append (filter shown x) (filter shown y)

pub seen_all-joined : (xs : List (List Element)) → seen_all xs ≡ seen (joined xs)
seen_all-joined [] = refl
seen_all-joined (x ∷ xs) = omega (arith, seen-append x (joined xs), seen_all-joined xs)

seen-offset : (xs : List (List Element)) (b at : ℕ) → b < length xs → at ≤ length (get_or xs b []) → seen (take (offset xs b at) (joined xs)) ≡ seen_all (take b xs) + seen (take at (get_or xs b []))
seen-offset [] b at there within = absurd (omega arith)
seen-offset (x ∷ xs) zero at there within = rw (zero-add at) (ap seen (take-append-le at x (joined xs) within) ∙ sym (zero-add (seen (take at x))))
seen-offset (x ∷ xs) (suc b) at there within =
    let e : length (x ++ joined (take b xs)) + at ≡ length x + offset xs b at = omega (arith, length-append x (joined (take b xs))) in
    let rest = seen-offset xs b at (omega arith) within in
    rw e (ap seen (take-append-add x (joined xs) (offset xs b at)) ∙ seen-append x (take (offset xs b at) (joined xs)) ∙ omega (arith, rest))

-- those before the one with an identifier, by its part and its place there
pub before_spot : (xs : List (List Element)) (b at : ℕ) (q : Identifier) → b < length xs → at ≤ length (get_or xs b []) → offset xs b at ≡ until q (joined xs)
    → seen_all (take b xs) + seen (take at (get_or xs b [])) ≡ count_by (λ e. not e.hidden) (take (until q (joined xs)) (joined xs))
before_spot xs b at q there within place =
    sym (seen-offset xs b at there within) ∙ ap (λ n. seen (take n (joined xs))) place ∙ seen_by (take (until q (joined xs)) (joined xs))
