-- Two neighbouring parts of a line in visual order, as one.
use Rattle.std.proofs.Common.{ℕ, ◌≡◌, ◌+◌, ◌-◌, ◌<◌, ◌≤◌, ◌⊎◌, inl, inr, refl, ap, sym, ◌∙◌, subst, List, [], ◌∷◌, ◌++◌, length, get_or, Bool, true, false, arith}
use Rattle.std.specs.Prelude.{if◌then◌else◌, slice_set}
use Rattle.std.proofs.lemmas.List.{map-append}
use Rattle.reorder.specs.VisualList.{Cluster, numbers, is_odd, arranged}
use Rattle.reorder.specs.Links.{IsLinked, clusters_between}
use Rattle.reorder.proofs.Arranged.{joined, arranged-one, arranged-joined_at_end, arranged-joined_at_start}
use Rattle.reorder.proofs.Between.{between-append, between-one, between-high, placed-within, placed-distinct}
use Rattle.reorder.proofs.Linked.{linked-joined}

-- the part of a line from a up to b stands in visual order as this piece
abbrev pub IsArranged : (levels links : List ℕ) (first last a b : ℕ) → Type 0
IsArranged levels links first last a b = IsLinked links first last (numbers (arranged levels (clusters_between levels a b)))

numbers-joined : (odd : Bool) (xs ys : List Cluster) → numbers (joined odd xs ys) ≡ joined odd (numbers xs) (numbers ys)
numbers-joined true xs ys = map-append (λ (c : Cluster). c.0) ys xs
numbers-joined false xs ys = map-append (λ (c : Cluster). c.0) xs ys

-- all levels from a up to c are at least this one
abbrev pub AreHigh : (levels : List ℕ) (a c level : ℕ) → Type 0
AreHigh levels a c level = (k : ℕ) → a ≤ k → k < c → level ≤ get_or levels k 0

-- where the least level ends the first part
at-end : (levels : List ℕ) (a b c level : ℕ) → a < b → b ≤ c → c ≤ length levels →
    AreHigh levels a c level → get_or levels (b - 1) 0 ≡ level →
    arranged levels (clusters_between levels a c)
    ≡ joined (is_odd level) (arranged levels (clusters_between levels a b)) (arranged levels (clusters_between levels b c))
at-end levels a b c level lt le within high e =
    let x : Cluster = (b - 1, level) in
    let before = clusters_between levels a (b - 1) in
    let one : clusters_between levels (b - 1) b ≡ (b - 1, level) ∷ [] =
    ap (λ n. clusters_between levels (b - 1) n) (let s : b ≡ b - 1 + 1 = omega arith in s)
    ∙ between-one levels (b - 1) (omega arith) ∙ ap (λ l. (b - 1, l) ∷ []) e in
    let own : clusters_between levels a b ≡ clusters_between levels a (b - 1) ++ (b - 1, level) ∷ [] =
    between-append levels a (b - 1) b (omega arith) (omega arith) (omega arith)
    ∙ ap (λ l. clusters_between levels a (b - 1) ++ l) one in
    ap (arranged levels) (between-append levels a b c (omega arith) le within ∙ ap (λ l. l ++ clusters_between levels b c) own)
    ∙ arranged-joined_at_end levels (clusters_between levels a (b - 1)) (b - 1, level) (clusters_between levels b c) (b - 1) (omega arith) e
    (between-high levels a (b - 1) level (omega arith) (omega arith) (λ k p q. high k p (omega arith)))
    (between-high levels b c level le within (λ k p q. high k (omega arith) q))
    ∙ ap (λ l. joined (is_odd level) (arranged levels l) (arranged levels (clusters_between levels b c))) (sym own)

-- where the least level begins the later part
at-start : (levels : List ℕ) (a b c level : ℕ) → a < b → b < c → c ≤ length levels →
    AreHigh levels a c level → get_or levels b 0 ≡ level →
    arranged levels (clusters_between levels a c)
    ≡ joined (is_odd level) (arranged levels (clusters_between levels a b)) (arranged levels (clusters_between levels b c))
at-start levels a b c level lt lt' within high e =
    let later : clusters_between levels b c ≡ (b, level) ∷ clusters_between levels (b + 1) c =
    between-append levels b (b + 1) c (omega arith) (omega arith) within
    ∙ ap (λ l. l ++ clusters_between levels (b + 1) c) (between-one levels b (omega arith) ∙ ap (λ l. (b, l) ∷ []) e) in
    ap (arranged levels) (between-append levels a b c (omega arith) (omega arith) within ∙ ap (λ l. clusters_between levels a b ++ l) later)
    ∙ arranged-joined_at_start levels (clusters_between levels a b) (b, level) (clusters_between levels (b + 1) c) b (omega arith) e
    (between-high levels a b level (omega arith) (omega arith) (λ k p q. high k p (omega arith)))
    (between-high levels (b + 1) c level (omega arith) within (λ k p q. high k (omega arith) q))
    ∙ ap (λ l. joined (is_odd level) (arranged levels (clusters_between levels a b)) (arranged levels l)) (sym later)

pub arranged-step : (levels links : List ℕ) (f l f' l' a b c level : ℕ) → a < b → b < c → c ≤ length levels → length links ≡ length levels →
    AreHigh levels a c level → (get_or levels (b - 1) 0 ≡ level) ⊎ (get_or levels b 0 ≡ level) →
    IsArranged levels links f l a b → IsArranged levels links f' l' b c →
    IsArranged levels (if is_odd level then slice_set links l' f else slice_set links l f') (if is_odd level then f' else f) (if is_odd level then l else l') a c
arranged-step levels links f l f' l' a b c level lt lt' within n high attained h h' =
    let odd = is_odd level in
    let own = arranged levels (clusters_between levels a b) in
    let later = arranged levels (clusters_between levels b c) in
    let is : arranged levels (clusters_between levels a c) ≡ joined (is_odd level) (arranged levels (clusters_between levels a b)) (arranged levels (clusters_between levels b c)) =
    elim attained [
      | inl e ↦ at-end levels a b c level lt (omega arith) within high e
      | inr e ↦ at-start levels a b c level lt lt' within high e
    ] in
    subst (IsLinked (if is_odd level then slice_set links l' f else slice_set links l f') (if is_odd level then f' else f) (if is_odd level then l else l'))
    (sym (numbers-joined (is_odd level) own later) ∙ ap numbers (sym is))
    (linked-joined (is_odd level) links f l (numbers own) f' l' (numbers later) a b c h h'
    (placed-distinct levels a b (omega arith) (omega arith)) (placed-distinct levels b c (omega arith) within)
    (placed-within levels a b (omega arith) (omega arith)) (placed-within levels b c (omega arith) within) (omega arith) (omega arith))

-- one cluster alone
pub arranged-single : (levels links : List ℕ) (a : ℕ) → a < length levels → IsArranged levels links a a a (a + 1)
arranged-single levels links a lt =
    subst (IsLinked links a a)
    (sym (ap (λ l. numbers (arranged levels l)) (between-one levels a lt)
    ∙ ap numbers (arranged-one levels (a, get_or levels a 0) a lt refl)))
    (refl, refl)
