-- A row of stretches with one in two.
use Rattle.std.proofs.Common.{◌≡◌, ℕ, suc, ◌<◌, ◌≤◌, ◌+◌, true, List, [], ◌∷◌, length, take, drop, get_or, refl, sym, ap, ◌∙◌, arith}
use Rattle.std.specs.Prelude.{All, insert, set}
use Rattle.std.proofs.lemmas.List.{length-take-le, take-append-drop}
use Rattle.std.proofs.lemmas.List.Elements.{All-set, All-append, All-cons, All-take, All-drop}
use Rattle.bg_types.specs.Identifier.{Identifier}
use Rattle.rga_tree.specs.Row.{is_distinct}
use Rattle.rga_tree.specs.Spot.{joined, offset}
use Rattle.rga_tree.proofs.Interface.{joined-suc, split_joined, split_low, split_front}
use Rattle.rga_runs.specs.declared.stretch.Stretch.{Stretch}
use Rattle.rga_runs.specs.Changed.{IsParted}
use Rattle.rga_runs.specs.Typed.{later}
use Rattle.rga_runs.specs.Stretches.{parts_in, elements_in, are_stored, IsOutside, AreApart}
use Rattle.rga_runs.proofs.Typed.{later-more}
use Rattle.rga_runs.proofs.Apart.{ids-parted}
use Rattle.rga_runs.proofs.Rows.{length-parts, part_long, part_there, parts_set, parts_insert, stored_at, stored_le, stored_is, stored_set, stored_insert}

abbrev pub in_two : List Stretch → ℕ → Stretch → Stretch → List Stretch
in_two ss p low rest = insert (set ss p low) (p + 1) rest

pub parted_parts : (chars : List ℕ) (ss : List Stretch) (p k : ℕ) (d low rest : Stretch) → p < length ss → IsParted (get_or ss p d) low rest k
    → parts_in chars (in_two ss p low rest) ≡ insert (set (parts_in chars ss) p (take k (get_or (parts_in chars ss) p []))) (p + 1) (drop k (get_or (parts_in chars ss) p []))
parted_parts chars ss p k d low rest there is =
    let here = part_there chars ss p d there in
    parts_insert chars (set ss p low) (p + 1) rest
    ∙ (λ i. insert ((parts_set chars ss p low ∙ ap (set (parts_in chars ss) p) (is.elements chars ∙ ap (take k) (sym here))) i) (p + 1) ((is.rest_elements chars ∙ ap (drop k) (sym here)) i))

pub parted_elements : (chars : List ℕ) (ss : List Stretch) (p k : ℕ) (d low rest : Stretch) → p < length ss → IsParted (get_or ss p d) low rest k → elements_in chars (in_two ss p low rest) ≡ elements_in chars ss
parted_elements chars ss p k d low rest there is =
    let xs = parts_in chars ss in
    let x = get_or xs p [] in
    ap joined (parted_parts chars ss p k d low rest there is) ∙ split_joined xs p (take k x) (drop k x) (omega (arith, length-parts chars ss, there)) (sym (take-append-drop k x))

-- the rest begins where the stretch is parted
pub parted_place : (chars : List ℕ) (ss : List Stretch) (p k : ℕ) (d low rest : Stretch) → are_stored (length chars) ss ≡ true → p < length ss → k ≤ (get_or ss p d).count → IsParted (get_or ss p d) low rest k
    → length (joined (take (p + 1) (parts_in chars (in_two ss p low rest)))) ≡ offset (parts_in chars ss) p k
parted_place chars ss p k d low rest stored there within is =
    let xs = parts_in chars ss in
    let x = get_or xs p [] in
    let ys = parts_in chars (in_two ss p low rest) in
    let some : p < length xs = omega (arith, length-parts chars ss, there) in
    let parts = parted_parts chars ss p k d low rest there is in
    let one_more : p + 1 ≡ suc p = omega arith in
    let front : take p ys ≡ take p xs = ap (take p) parts ∙ split_front xs p (take k x) (drop k x) some in
    let here : get_or ys p [] ≡ take k x = ap (λ zs. get_or zs p []) parts ∙ split_low xs p (take k x) (drop k x) some in
    let long : length (take k x) ≡ k = length-take-le k x (omega (arith, part_long chars ss p d stored there, within)) in
    ap (λ n. length (joined (take n ys))) one_more ∙ omega (arith, joined-suc ys p, ap (λ zs. length (joined zs)) front, ap length here, long)

pub parted_stored : (n : ℕ) (ss : List Stretch) (p k : ℕ) (d low rest : Stretch) → are_stored n ss ≡ true → p < length ss → k ≤ (get_or ss p d).count → IsParted (get_or ss p d) low rest k → are_stored n (in_two ss p low rest) ≡ true
parted_stored n ss p k d low rest stored there within is =
    let last = stored_le n (get_or ss p d) (stored_at n ss p d stored there) in
    stored_insert n (set ss p low) (p + 1) rest (stored_set n ss p low stored (stored_is n low (omega (arith, last, is.start, is.count, within))))
    (stored_is n rest (omega (arith, last, is.rest_start, is.rest_count)))

pub parted_outside : (q : Identifier) (ss : List Stretch) (p k : ℕ) (d low rest : Stretch) → p < length ss → k ≤ (get_or ss p d).count → IsParted (get_or ss p d) low rest k → All (IsOutside q) ss → All (IsOutside q) (in_two ss p low rest)
parted_outside q ss p k d low rest there within is out =
    let s = get_or ss p d in
    let whole : IsOutside q s = out p d there in
    let lower : IsOutside q low = λ i less same. whole i (omega (arith, less, is.count, within)) (same ∙ ap (λ f. later f i) is.first) in
    let upper : IsOutside q rest = λ i less same. whole (k + i) (omega (arith, less, is.rest_count)) (same ∙ ap (λ f. later f i) is.rest_first ∙ later-more s.first k i (k + i) refl) in
    let l = set ss p low in
    let all = All-set (IsOutside q) ss p low lower out in
    All-append (IsOutside q) (take (p + 1) l) (rest ∷ drop (p + 1) l) (All-take (IsOutside q) (p + 1) l all) (All-cons (IsOutside q) rest (drop (p + 1) l) upper (All-drop (IsOutside q) (p + 1) l all))

pub parted_apart : (ss : List Stretch) (p k : ℕ) (d low rest : Stretch) → p < length ss → IsParted (get_or ss p d) low rest k → AreApart ss → AreApart (in_two ss p low rest)
parted_apart ss p k d low rest there is apart =
    let s = get_or ss p d in
    ap is_distinct (ids-parted ss p d low rest there is.first (is.rest_first ∙ ap (λ n. later s.first n) (sym is.count)) (ap (λ n. n + rest.count) is.count ∙ is.rest_count)) ∙ apart
