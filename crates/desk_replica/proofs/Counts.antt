-- How many changes are told: one for each element that only one of two sets shows.
use Rattle.std.proofs.Common.{◌≡◌, ◌≤◌, ◌+◌, ℕ, Bool, true, false, cond, not, List, [], ◌∷◌, length, sym, ap, subst, ◌∙◌, refl, arith}
use Rattle.std.specs.Prelude.{◌||◌, ◌&&◌, count_by, filter}
use Rattle.std.specs.FinSet as set
use Rattle.bg_types.specs.Identifier.{Identifier, id_cmp, same_id}
use Rattle.bg_types.specs.OperationSet.{OperationSet, AllWellFormed}
use Rattle.bg_types.specs.declared.op.Place.TheVariants.{Root}
use Rattle.bg_types.proofs.Interface.{id_cmp-total, id_cmp-exact, same_id-is, same_id-itself}
use Rattle.rga_tree.specs.Walk.{walk, walked_ids}
use Rattle.rga_tree.specs.TextOf.{visible_ids, is_erased}
use Rattle.rga_tree.proofs.Interface.{IsDistinct-walked, filter_ids}
use Rattle.pending_ops.specs.Chains.{AreApart, is_in}
use Rattle.pending_ops.proofs.Interface.{IsDistinct-apart, contains-from_list, len-from_list}
use Rattle.desk_replica.specs.Telling.{TextStep, puts, cuts, is_put, is_cut, is_shown, AreSteps, present_after, changes_of, change_count}
use Rattle.desk_replica.proofs.Steps.{count_cons, count_with, count_without}

-- ---- filtered identifiers

in_filtered : (p : Identifier → Bool) (xs : List Identifier) (q : Identifier) → is_in (filter p xs) q ≡ (is_in xs q && p q)
in_filtered p [] q = refl
in_filtered p (x ∷ xs) q = by (p x) (same_id q x) refl refl (in_filtered p xs q)
  where
    last : (a c : Bool) → c ≡ false → (a && c) ≡ false
    last true c e = e
    last false c e = refl

    by : (b c : Bool) → p x ≡ b → same_id q x ≡ c → is_in (filter p xs) q ≡ (is_in xs q && p q) → is_in (cond b (x ∷ filter p xs) (filter p xs)) q ≡ ((same_id q x || is_in xs q) && p q)
    by true true is same rest = ap (λ k. k || is_in (filter p xs) q) same ∙ sym (λ i. (same i || is_in xs q) && (ap p (same_id-is q x same) ∙ is) i)
    by true false is same rest = (λ i. same i || rest i) ∙ sym (ap (λ k. (k || is_in xs q) && p q) same)
    by false true is same rest =
        let own : p q ≡ false = ap p (same_id-is q x same) ∙ is in
        rest ∙ last (is_in xs q) (p q) own ∙ sym (last (same_id q x || is_in xs q) (p q) own)
    by false false is same rest = rest ∙ sym (ap (λ k. (k || is_in xs q) && p q) same)

apart_filtered : (p : Identifier → Bool) (xs : List Identifier) → AreApart xs → AreApart (filter p xs)
apart_filtered p [] h = tt
apart_filtered p (x ∷ xs) h = by (p x) (apart_filtered p xs h.1)
  where
    by : (b : Bool) → AreApart (filter p xs) → AreApart (cond b (x ∷ filter p xs) (filter p xs))
    by true rest = (in_filtered p xs x ∙ ap (λ k. k && p x) h.0, rest)
    by false rest = rest

length_filtered : (p : Identifier → Bool) (xs : List Identifier) → length (filter p xs) ≡ count_by p xs
length_filtered p [] = refl
length_filtered p (x ∷ xs) = let e = count_cons p x xs in let r = length_filtered p xs in by (p x) (omega (arith, e)) r
  where
    by : (b : Bool) → count_by p (x ∷ xs) ≡ cond b 1 0 + count_by p xs → length (filter p xs) ≡ count_by p xs → length (cond b (x ∷ filter p xs) (filter p xs)) ≡ count_by p (x ∷ xs)
    by true e r = omega (arith, e, r)
    by false e r = omega (arith, e, r)

-- ---- lists in which each identifier stands once, or not

in_of_count : (xs : List Identifier) (q : Identifier) (b : Bool) → count_by (same_id q) xs ≡ cond b 1 0 → is_in xs q ≡ b
in_of_count [] q true e = absurd (omega (arith, e))
in_of_count [] q false e = refl
in_of_count (x ∷ xs) q b e = by (same_id q x) refl b e (in_of_count xs q b)
  where
    by : (c : Bool) → same_id q x ≡ c → (b : Bool) → count_by (same_id q) (x ∷ xs) ≡ cond b 1 0 → (count_by (same_id q) xs ≡ cond b 1 0 → is_in xs q ≡ b) → (same_id q x || is_in xs q) ≡ b
    by true same true e rest = ap (λ k. k || is_in xs q) same
    by true same false e rest = let w = count_with (same_id q) x xs same in absurd (omega (arith, w, e))
    by false same b e rest = ap (λ k. k || is_in xs q) same ∙ rest (sym (count_without (same_id q) x xs same) ∙ e)

apart_of_counts : (xs : List Identifier) → ((q : Identifier) → count_by (same_id q) xs ≤ 1) → AreApart xs
apart_of_counts [] h = tt
apart_of_counts (x ∷ xs) h = (
  (let w = count_with (same_id x) x xs (same_id-itself x) in let one = h x in in_of_count xs x false (omega (arith, w, one))),
  apart_of_counts xs (λ q. let c = count_cons (same_id q) x xs in let one = h q in omega (arith, c, one)),
)

-- so long as one that has the same identifiers
same_lengths : (xs ys : List Identifier) → AreApart ys → ((q : Identifier) → count_by (same_id q) xs ≡ cond (is_in ys q) 1 0) → length xs ≡ length ys
same_lengths xs ys apart counts =
    let once = apart_of_counts xs (λ q. few (is_in ys q) (counts q)) in
    let same : set.from_list {R = id_cmp} xs ≡ set.from_list ys = set.same_set id_cmp-total id_cmp-exact _ _ (λ q.
    contains-from_list xs q ∙ in_of_count xs q (is_in ys q) (counts q) ∙ sym (contains-from_list ys q)) in
    sym (len-from_list xs once) ∙ ap set.len same ∙ len-from_list ys apart
  where
    few : {n : ℕ} (b : Bool) → n ≡ cond b 1 0 → n ≤ 1
    few true e = omega (arith, e)
    few false e = omega (arith, e)

-- ---- what steps put and cut

abbrev put_ids : List TextStep → List Identifier
put_ids [] = []
put_ids (puts x ∷ steps) = x ∷ put_ids steps
put_ids (cuts x ∷ steps) = put_ids steps

abbrev cut_ids : List TextStep → List Identifier
cut_ids [] = []
cut_ids (puts x ∷ steps) = cut_ids steps
cut_ids (cuts x ∷ steps) = x ∷ cut_ids steps

count_puts : (steps : List TextStep) (q : Identifier) → count_by (same_id q) (put_ids steps) ≡ count_by (is_put q) steps
count_puts [] q = refl
count_puts (puts x ∷ steps) q = count_cons (same_id q) x (put_ids steps) ∙ ap (λ n. cond (same_id q x) 1 0 + n) (count_puts steps q) ∙ sym (count_cons (is_put q) (puts x) steps)
count_puts (cuts x ∷ steps) q = count_puts steps q ∙ sym (count_without (is_put q) (cuts x) steps refl)

count_cuts : (steps : List TextStep) (q : Identifier) → count_by (same_id q) (cut_ids steps) ≡ count_by (is_cut q) steps
count_cuts [] q = refl
count_cuts (cuts x ∷ steps) q = count_cons (same_id q) x (cut_ids steps) ∙ ap (λ n. cond (same_id q x) 1 0 + n) (count_cuts steps q) ∙ sym (count_cons (is_cut q) (cuts x) steps)
count_cuts (puts x ∷ steps) q = count_cuts steps q ∙ sym (count_without (is_cut q) (puts x) steps refl)

both_lengths : (steps : List TextStep) → length steps ≡ length (put_ids steps) + length (cut_ids steps)
both_lengths [] = refl
both_lengths (puts x ∷ steps) = let r = both_lengths steps in omega (arith, r)
both_lengths (cuts x ∷ steps) = let r = both_lengths steps in omega (arith, r)

length_told : (t : OperationSet) (present : Identifier → Bool) (steps : List TextStep) → length (changes_of t present steps) ≡ length steps
length_told t present [] = refl
length_told t present (step ∷ steps) = let r = length_told t (present_after present step) steps in omega (arith, r)

-- ---- what is shown

shown_ids : (t : OperationSet) (q : Identifier) → is_in (visible_ids t) q ≡ is_shown t q
shown_ids t q = ap (λ l. is_in l q) (filter_ids (λ x. not (is_erased t x)) (walk t Root)) ∙ in_filtered (λ x. not (is_erased t x)) (walked_ids t) q

apart_shown : (t : OperationSet) → AllWellFormed t → AreApart (visible_ids t)
apart_shown t well = by (sym (filter_ids (λ x. not (is_erased t x)) (walk t Root))) (apart_filtered (λ x. not (is_erased t x)) (walked_ids t) (IsDistinct-apart (walked_ids t) (IsDistinct-walked t well)))
  where
    by : {xs ys : List Identifier} → xs ≡ ys → AreApart xs → AreApart ys
    by e = subst AreApart e

pub told_length : (s t : OperationSet) (steps : List TextStep) → AllWellFormed s → AreSteps s t steps → length (changes_of t (is_shown s) steps) ≡ change_count s t
told_length s t steps well h =
    let new = filter (λ q. not (is_shown s q)) (visible_ids t) in
    let gone = filter (λ q. not (is_shown t q)) (visible_ids s) in
    let p = same_lengths (put_ids steps) new (apart_filtered (λ q. not (is_shown s q)) (visible_ids t) (apart_shown t h.well_formed))
    (λ q. count_puts steps q ∙ h.each_put q ∙ ap (λ b. cond b 1 0) (sym (in_filtered (λ x. not (is_shown s x)) (visible_ids t) q ∙ ap (λ b. b && not (is_shown s q)) (shown_ids t q)))) in
    let c = same_lengths (cut_ids steps) gone (apart_filtered (λ q. not (is_shown t q)) (visible_ids s) (apart_shown s well))
    (λ q. count_cuts steps q ∙ h.each_cut q ∙ ap (λ b. cond b 1 0) (sym (in_filtered (λ x. not (is_shown t x)) (visible_ids s) q ∙ ap (λ b. b && not (is_shown t q)) (shown_ids s q)))) in
    let l = length_told t (is_shown s) steps in
    let b = both_lengths steps in
    let np = length_filtered (λ q. not (is_shown s q)) (visible_ids t) in
    let nc = length_filtered (λ q. not (is_shown t q)) (visible_ids s) in
    omega (arith, p, c, l, b, np, nc)
