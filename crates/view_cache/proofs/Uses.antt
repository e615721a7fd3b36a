-- Which keys are kept after uses, and how many uses find nothing.
use Rattle.std.proofs.Common.{◌≡◌, ◌≤◌, ◌<◌, ◌+◌, ◌++◌, ◌∷◌, [], ℕ, zero, suc, true, false, List, length, take, refl, sym, ap, subst, ◌∙◌, rules, arith, append_assoc, length-append}
use Rattle.view_cache.specs.Keys.{ParagraphKey, same_key}
use Rattle.view_cache.specs.Uses.{is_kept, without, used, all_used, laid_anew}
use Rattle.bg_types.proofs.Interface.{two_cases}

-- ---- uses one after the other

pub all_used-append : (room : ℕ) (xs ys kept : List ParagraphKey) → all_used room (xs ++ ys) kept ≡ all_used room ys (all_used room xs kept)
all_used-append room [] ys kept = refl
all_used-append room (x ∷ xs) ys kept = all_used-append room xs ys (used room x kept)

pub laid_anew-append : (room : ℕ) (xs ys kept : List ParagraphKey) → laid_anew room (xs ++ ys) kept ≡ laid_anew room xs kept + laid_anew room ys (all_used room xs kept)
laid_anew-append room [] ys kept = omega arith
laid_anew-append room (x ∷ xs) ys kept = let ih = laid_anew-append room xs ys (used room x kept) in omega arith

pub laid_anew-most : (room : ℕ) (xs kept : List ParagraphKey) → laid_anew room xs kept ≤ length xs
laid_anew-most room [] kept = omega arith
laid_anew-most room (x ∷ xs) kept =
    let ih = laid_anew-most room xs (used room x kept) in
    two_cases (is_kept x kept)
    (λ t. rw t (omega arith))
    (λ t. rw t (omega arith))

-- ---- equal keys

same-equal : (a b : ParagraphKey) → same_key a b ≡ true → a ≡ b
unfolding same_key
same-equal a b h = search rules

pub same-itself : (a : ParagraphKey) → same_key a a ≡ true
unfolding same_key
same-itself a = search rules

-- ---- a recently used key is kept

kept-first : (a k : ParagraphKey) (ks : List ParagraphKey) → same_key a k ≡ true → is_kept a (k ∷ ks) ≡ true
kept-first a k ks h = rw (h, is_kept)

kept-later : (a k : ParagraphKey) (ks : List ParagraphKey) → same_key a k ≡ false → is_kept a (k ∷ ks) ≡ is_kept a ks
kept-later a k ks h = rw (h, is_kept)

-- one more key loses nothing
kept-more : (a k : ParagraphKey) (ks : List ParagraphKey) → is_kept a ks ≡ true → is_kept a (k ∷ ks) ≡ true
kept-more a k ks h = two_cases (same_key a k) (λ t. kept-first a k ks t) (λ t. kept-later a k ks t ∙ h)

take-more : (a : ParagraphKey) (n : ℕ) (ks : List ParagraphKey) → is_kept a (take n ks) ≡ true → is_kept a (take (suc n) ks) ≡ true
take-more a zero ks h = cc
take-more a (suc n) [] h = h
take-more a (suc n) (k ∷ ks) h = two_cases (same_key a k)
    (λ t. kept-first a k (take (suc n) ks) t)
    (λ t. kept-more a k (take (suc n) ks) (take-more a n ks (sym (kept-later a k (take n ks) t) ∙ h)))

-- a use of another key takes no key further than one step back
kept-without : (a s : ParagraphKey) (n : ℕ) (ks : List ParagraphKey) → same_key a s ≡ false → is_kept a (take n ks) ≡ true → is_kept a (take n (without s ks)) ≡ true
kept-without a s zero ks other h = h
kept-without a s (suc n) [] other h = h
kept-without a s (suc n) (k ∷ ks) other h = two_cases (same_key s k)
    (λ t.
    let gone : without s (k ∷ ks) ≡ ks = rw (t, without) in
    let apart = two_cases {P = same_key a k ≡ false} (same_key a k)
    (λ u. let e : a ≡ s = same-equal a k u ∙ sym (same-equal s k t) in
    let same : same_key a s ≡ true = ap (same_key a) (sym e) ∙ same-itself a in cc)
    (λ u. u) in
    ap (λ l. is_kept a (take (suc n) l)) gone ∙ take-more a n ks (sym (kept-later a k (take n ks) apart) ∙ h))
    (λ t.
    let stays : without s (k ∷ ks) ≡ k ∷ without s ks = rw (t, without) in
    ap (λ l. is_kept a (take (suc n) l)) stays
    ∙ two_cases (same_key a k)
    (λ u. kept-first a k (take n (without s ks)) u)
    (λ u. kept-more a k (take n (without s ks)) (kept-without a s n ks other (sym (kept-later a k (take n ks) u) ∙ h))))

take-take : (n room : ℕ) (xs : List ParagraphKey) → n ≤ room → take n (take room xs) ≡ take n xs
take-take zero room xs le = refl
take-take (suc n) zero xs le = absurd (omega arith)
take-take (suc n) (suc room) [] le = refl
take-take (suc n) (suc room) (x ∷ xs) le = ap (λ l. x ∷ l) (take-take n room xs (omega arith))

-- a key among the first n is among the first n + 1 after a use
kept-used : (a s : ParagraphKey) (n room : ℕ) (ks : List ParagraphKey) → n < room → is_kept a (take n ks) ≡ true → is_kept a (take (suc n) (used room s ks)) ≡ true
kept-used a s n room ks lt h =
    ap (is_kept a) (take-take (suc n) room (s ∷ without s ks) (omega arith))
    ∙ two_cases (same_key a s)
    (λ t. kept-first a s (take n (without s ks)) t)
    (λ t. kept-more a s (take n (without s ks)) (kept-without a s n ks t h))

kept-all_used : (a : ParagraphKey) (n room : ℕ) (uses ks : List ParagraphKey) → n + length uses ≤ room → is_kept a (take n ks) ≡ true → is_kept a (take (n + length uses) (all_used room uses ks)) ≡ true
kept-all_used a n room [] ks le h = let e : n ≡ n + 0 = omega arith in subst (λ m. is_kept a (take m ks) ≡ true) e h
kept-all_used a n room (s ∷ uses) ks le h =
    let e : suc n + length uses ≡ n + suc (length uses) = omega arith in
    subst (λ m. is_kept a (take m (all_used room uses (used room s ks))) ≡ true) e
    (kept-all_used a (suc n) room uses (used room s ks) (omega arith) (kept-used a s n room ks (omega arith) h))

kept-take : (a : ParagraphKey) (n : ℕ) (ks : List ParagraphKey) → is_kept a (take n ks) ≡ true → is_kept a ks ≡ true
kept-take a zero ks h = cc
kept-take a (suc n) [] h = h
kept-take a (suc n) (k ∷ ks) h = two_cases (same_key a k)
    (λ t. kept-first a k ks t)
    (λ t. kept-more a k ks (kept-take a n ks (sym (kept-later a k (take n ks) t) ∙ h)))

-- a key is kept until as many uses follow it as there is room for
kept-lately : (a : ParagraphKey) (room : ℕ) (uses ks : List ParagraphKey) → length uses < room → is_kept a (all_used room uses (used room a ks)) ≡ true
kept-lately a zero uses ks lt = absurd (omega arith)
kept-lately a (suc room) uses ks lt =
    kept-take a (1 + length uses) (all_used (suc room) uses (used (suc room) a ks))
    (kept-all_used a 1 (suc room) uses (used (suc room) a ks) (omega arith) (kept-first a a [] (same-itself a)))

-- ---- keys used recently are found

-- what was used, and then what fits beside it, is found when it is used again
pub found-again : (room : ℕ) (again between kept : List ParagraphKey) → length (again ++ between) ≤ room
    → laid_anew room again (all_used room (again ++ between) kept) ≡ 0
found-again room [] between kept fits = refl
found-again room (a ∷ again) between kept fits =
    let there = kept-lately a room (again ++ between) kept (omega arith) in
    let turned : all_used room (again ++ (between ++ a ∷ [])) (used room a kept) ≡ used room a (all_used room (again ++ between) (used room a kept)) =
    ap (λ l. all_used room l (used room a kept)) (sym (append_assoc again between (a ∷ []))) ∙ all_used-append room (again ++ between) (a ∷ []) (used room a kept) in
    let n = length-append again between in
    let m = length-append again (between ++ a ∷ []) in
    let o = length-append between (a ∷ []) in
    let rest = found-again room again (between ++ a ∷ []) (used room a kept) (omega arith) in
    let last : laid_anew room again (used room a (all_used room (again ++ between) (used room a kept))) ≡ 0 = ap (laid_anew room again) (sym turned) ∙ rest in
    rw (there, laid_anew) (omega arith)

-- an edit lays out at most what it puts in
pub edit-laid : (room : ℕ) (before old new after kept : List ParagraphKey) → length (before ++ (old ++ after)) ≤ room → length (before ++ (new ++ after)) ≤ room
    → laid_anew room (before ++ (new ++ after)) (all_used room (before ++ (old ++ after)) kept) ≤ length new
edit-laid room before old new after kept was is =
    let drawn = all_used room (before ++ (old ++ after)) kept in
    let first = found-again room before (old ++ after) kept was in
    let parted = laid_anew-append room before (new ++ after) drawn in
    let parted_again = laid_anew-append room new after (all_used room before drawn) in
    let most = laid_anew-most room new (all_used room before drawn) in
    let turned : all_used room (after ++ (before ++ new)) (all_used room (before ++ old) kept) ≡ all_used room new (all_used room before drawn) =
    all_used-append room after (before ++ new) (all_used room (before ++ old) kept)
    ∙ all_used-append room before new (all_used room after (all_used room (before ++ old) kept))
    ∙ ap (λ l. all_used room new (all_used room before l))
    (sym (all_used-append room (before ++ old) after kept) ∙ ap (λ l. all_used room l kept) (append_assoc before old after)) in
    let a = length-append after (before ++ new) in
    let b = length-append before new in
    let d = length-append before (new ++ after) in
    let e = length-append new after in
    let last : laid_anew room after (all_used room new (all_used room before drawn)) ≡ 0 =
    ap (laid_anew room after) (sym turned) ∙ found-again room after (before ++ new) (all_used room (before ++ old) kept) (omega arith) in
    omega arith
