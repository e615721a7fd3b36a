-- The columns of a stretch outside its tail.
use Rattle.std.proofs.Common.{◌≡◌, ℕ, ◌+◌, ◌-◌, ◌≤◌, true, false, ◌&&◌, cond, List, [], ◌∷◌, ◌++◌, refl, sym, ap, ◌∙◌, arith}
use Rattle.std.proofs.Math.Bool.{and-false, and-true}
use Rattle.std.proofs.lemmas.List.Sums.{sum_by-cons, sum_by-append}
use Rattle.std.specs.List.{list_all}
use Rattle.line_break.specs.declared.cluster.Cluster.{Cluster}
use Rattle.line_break.specs.LineClusters.{hangs}
use Rattle.line_break.specs.Lines.{without_tail, columns}
use Rattle.bg_types.proofs.Interface.{two_cases}

-- the columns outside the tail
abbrev pub solid : List Cluster → ℕ
solid stretch = columns (without_tail stretch)

columns-cons : (c : Cluster) (xs : List Cluster) → columns (c ∷ xs) ≡ c.columns + columns xs
columns-cons c xs = sum_by-cons (λ (x : Cluster). x.columns) c xs

pub columns-append : (xs ys : List Cluster) → columns (xs ++ ys) ≡ columns xs + columns ys
columns-append xs ys = sum_by-append (λ (x : Cluster). x.columns) xs ys

solid-hangs : (xs : List Cluster) → list_all hangs xs ≡ true → solid xs ≡ 0
solid-hangs [] h = refl
solid-hangs (c ∷ xs) h = ap (λ b. columns (cond b [] (c ∷ without_tail xs))) h

solid-stands : (c : Cluster) (xs : List Cluster) → list_all hangs (c ∷ xs) ≡ false → solid (c ∷ xs) ≡ c.columns + solid xs
solid-stands c xs h = ap (λ b. columns (cond b [] (c ∷ without_tail xs))) h ∙ columns-cons c (without_tail xs)

pub solid-le : (xs : List Cluster) → solid xs ≤ columns xs
solid-le [] = omega arith
solid-le (c ∷ xs) =
    let more = columns-cons c xs in
    let later = solid-le xs in
    two_cases (list_all hangs (c ∷ xs))
    (λ h. let e = solid-hangs (c ∷ xs) h in omega arith)
    (λ h. let e = solid-stands c xs h in omega arith)

all-append : (xs ys : List Cluster) → list_all hangs (xs ++ ys) ≡ (list_all hangs xs && list_all hangs ys)
all-append [] ys = refl
all-append (c ∷ xs) ys = two_cases (hangs c) (λ h. rw h (all-append xs ys)) (λ h. rw h refl)

-- a stretch and a stretch that hangs
pub solid-append-hangs : (xs ys : List Cluster) → list_all hangs ys ≡ true → solid (xs ++ ys) ≡ solid xs
solid-append-hangs [] ys h = solid-hangs ys h
solid-append-hangs (c ∷ xs) ys h =
    let same : list_all hangs (c ∷ (xs ++ ys)) ≡ list_all hangs (c ∷ xs) =
    all-append (c ∷ xs) ys ∙ ap (λ b. list_all hangs (c ∷ xs) && b) h ∙ and-true (list_all hangs (c ∷ xs)) in
    two_cases (list_all hangs (c ∷ xs))
    (λ a. solid-hangs (c ∷ (xs ++ ys)) (same ∙ a) ∙ sym (solid-hangs (c ∷ xs) a))
    (λ a. solid-stands c (xs ++ ys) (same ∙ a) ∙ ap (λ n. c.columns + n) (solid-append-hangs xs ys h) ∙ sym (solid-stands c xs a))

-- a stretch and one that doesn't
pub solid-append-stands : (xs ys : List Cluster) → list_all hangs ys ≡ false → solid (xs ++ ys) ≡ columns xs + solid ys
solid-append-stands [] ys h = omega arith
solid-append-stands (c ∷ xs) ys h =
    let none : list_all hangs (c ∷ (xs ++ ys)) ≡ false =
    all-append (c ∷ xs) ys ∙ ap (λ b. list_all hangs (c ∷ xs) && b) h ∙ and-false (list_all hangs (c ∷ xs)) in
    let later = solid-append-stands xs ys h in
    let more = columns-cons c xs in
    let e = solid-stands c (xs ++ ys) none in
    omega arith

-- one more cluster
pub solid-push : (xs : List Cluster) (c : Cluster) → solid (xs ++ c ∷ []) ≡ cond (hangs c) (solid xs) (columns xs + c.columns)
solid-push xs c =
    two_cases (hangs c)
    (λ h. let one : list_all hangs (c ∷ []) ≡ true = ap (λ b. b && true) h in
    solid-append-hangs xs (c ∷ []) one ∙ ap (λ b. cond b (solid xs) (columns xs + c.columns)) (sym h))
    (λ h. let one : list_all hangs (c ∷ []) ≡ false = ap (λ b. b && true) h in
    let e = solid-append-stands xs (c ∷ []) one in
    let f = solid-stands c [] one in
    let g : solid (xs ++ c ∷ []) ≡ columns xs + c.columns = omega arith in
    g ∙ ap (λ b. cond b (solid xs) (columns xs + c.columns)) (sym h))

-- a stretch after another: what it has outside its tail
pub solid-append : (xs ys : List Cluster) → solid ys ≡ solid (xs ++ ys) - columns xs
solid-append xs ys =
    let small = solid-le xs in
    two_cases (list_all hangs ys)
    (λ h. let e = solid-append-hangs xs ys h in let f = solid-hangs ys h in omega arith)
    (λ h. let e = solid-append-stands xs ys h in omega arith)

pub solid-grows : (xs ys : List Cluster) → solid xs ≤ solid (xs ++ ys)
solid-grows xs ys =
    let small = solid-le xs in
    two_cases (list_all hangs ys)
    (λ h. let e = solid-append-hangs xs ys h in omega arith)
    (λ h. let e = solid-append-stands xs ys h in omega arith)
