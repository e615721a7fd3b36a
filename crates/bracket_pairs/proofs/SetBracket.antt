-- A bracket and the marks after it.
use Rattle.std.proofs.Common.{ℕ, ◌≡◌, ◌+◌, ◌<◌, ◌≤◌, refl, true, false, List, [], ◌∷◌, ◌++◌, length, get_or, set, take, drop, add-one, arith}
use Rattle.std.proofs.lemmas.List.{append-nil, append_assoc, drop_more, drop_all, take_all, take_more_set, drop-set-lt, take-append-drop}
use Rattle.bg_types.specs.declared.class.Bidi.{Bidi}
use Rattle.bracket_pairs.specs.N0.{is_nonspacing, marks_set, bracket_set}

-- at a place that is set the marks after it are still to be set
pub set-begins : (t : Bidi) (before_w1 types : List Bidi) (place : ℕ) → place < length types →
    take (place + 1) (set types place t) ++ marks_set t (drop (place + 1) before_w1) (drop (place + 1) (set types place t)) ≡ bracket_set t before_w1 types place
unfolding bracket_set
set-begins t before_w1 types place h =
    rw (take_more_set types place t h, drop-set-lt (place + 1) types place t (omega arith), add-one, append_assoc) refl

-- one mark more
pub marks-more : (t d : Bidi) (before_w1 types : List Bidi) (k : ℕ) → k < length before_w1 → k < length types →
    is_nonspacing (get_or before_w1 k d) ≡ true →
    take (k + 1) (set types k t) ++ marks_set t (drop (k + 1) before_w1) (drop (k + 1) (set types k t))
    ≡ take k types ++ marks_set t (drop k before_w1) (drop k types)
marks-more t d before_w1 types k hb ht is =
    rw (drop_more before_w1 k d hb, drop_more types k d ht, is, take_more_set types k t ht, drop-set-lt (k + 1) types k t (omega arith), append_assoc) refl

-- no mark more
pub marks-end : (t d : Bidi) (before_w1 types : List Bidi) (k : ℕ) → k < length before_w1 → k < length types →
    is_nonspacing (get_or before_w1 k d) ≡ false → take k types ++ marks_set t (drop k before_w1) (drop k types) ≡ types
marks-end t d before_w1 types k hb ht is =
    rw (drop_more before_w1 k d hb, drop_more types k d ht, is, ← drop_more types k d ht) (take-append-drop k types)

marks-none : (t : Bidi) (before_w1 : List Bidi) → marks_set t before_w1 [] ≡ []
marks-none t [] = refl
marks-none t (b ∷ before_w1) = refl

-- at the end
pub marks-all : (t : Bidi) (before_w1 types : List Bidi) (k : ℕ) → length types ≤ k → take k types ++ marks_set t (drop k before_w1) (drop k types) ≡ types
marks-all t before_w1 types k h = rw (drop_all k types h, marks-none t (drop k before_w1), take_all k types h) (append-nil types)
