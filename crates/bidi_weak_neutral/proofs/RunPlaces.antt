-- The places of level runs: what stands there, and levels put there.
use Rattle.std.proofs.Common.{arith, ℕ, zero, suc, ◌+◌, ◌-◌, ◌<◌, ◌≤◌, ◌≡◌, refl, ap, ap₂, sym, ◌∙◌, List, [], ◌∷◌, ◌++◌, map, length, get_or, set, take, drop, append-nil, Option}
use Rattle.std.specs.Prelude.{slice_index, slice_range}
use Rattle.std.specs.List.{All, range_with_len}
use Rattle.std.proofs.Math.Seq.{take-length}
use Rattle.std.proofs.lemmas.List.{drop_all, drop_more, flat_map_more, get_or_default, length-append, map-append, same_lists, take_more}
use Rattle.std.proofs.lemmas.List.Edits.{get_or-between, length-between, sets, sets-eq}
use Rattle.std.proofs.lemmas.List.Elements.{All-get_or}
use Rattle.std.proofs.lemmas.List.FromFn.{get_or-map-range_with_len, get_or-range_with_len, length-map-range_with_len, length-range_with_len}
use Rattle.std.proofs.lemmas.Slice.{put_mid-paste}
use borrow.Rule.Slice.PartMut.{put_mid}
use Rattle.bidi_explicit.specs.declared.kept.Kept.{Kept}
use Rattle.bidi_explicit.specs.declared.level_run.LevelRun.{LevelRun}
use Rattle.bidi_explicit.specs.LevelRuns.{HasPlace, own_places, places_between, run_places}
use Rattle.bidi_explicit.specs.Sequences.{below, kept_at}
use Rattle.bidi_explicit.proofs.Interface.{All-left, All-right, kept_at-is}
use Rattle.bidi_weak_neutral.specs.Levels.{levels_at, type_of}

-- what holds of all places holds of those of one run
own-all : (P : ℕ → Type 0) (runs : List LevelRun) (i : ℕ) (d : LevelRun) → i < length runs → All P (run_places runs) → All P (own_places (get_or runs i d))
own-all P [] i d lt all = absurd (omega arith)
own-all P (r ∷ rs) zero d lt all = All-left P (own_places r) (run_places rs) all
own-all P (r ∷ rs) (suc i) d lt all = own-all P rs i d (omega arith) (All-right P (own_places r) (run_places rs) all)

-- where all its places are below n, so is a run
own-within : (n a b : ℕ) → a < b → All (λ i. i < n) (places_between a b) → b ≤ n
own-within n a b some all =
    let last : (b - a) - 1 < b - a = omega arith in
    let here = All-get_or (λ i. i < n) (places_between a b) ((b - a) - 1) 0 (omega (arith, length-range_with_len a (b - a))) all in
    let at = get_or-range_with_len a (b - a) ((b - a) - 1) 0 last in
    omega arith

pub run-within : (n : ℕ) (runs : List LevelRun) (i : ℕ) (d : LevelRun) → i < length runs → All HasPlace runs → All (λ i. i < n) (run_places runs) → (get_or runs i d).end ≤ n
run-within n runs i d lt some all =
    own-within n (get_or runs i d).start (get_or runs i d).end (All-get_or HasPlace runs i d lt some) (own-all (λ i. i < n) runs i d lt all)

-- a list at places in a row is a part of it
range-list : {X : Type 0} (xs : List X) (f : ℕ → X) (a b : ℕ) → b ≤ length xs → ((i : ℕ) (d : X) → i < length xs → f i ≡ get_or xs i d) →
    map f (places_between a b) ≡ slice_range xs a b
range-list xs f a b le is =
    same_lists _ _ (length-map-range_with_len f a (b - a) ∙ sym (length-between xs a b le))
    (λ k d lt.
    let inside : k < b - a = omega (arith, length-map-range_with_len f a (b - a)) in
    get_or-map-range_with_len f a (b - a) k (a + k) d inside refl ∙ is (a + k) d (omega arith) ∙ sym (get_or-between xs a b k d (omega arith)))

pub points-between : (points : List ℕ) (a b : ℕ) → b ≤ length points → map (slice_index points) (places_between a b) ≡ slice_range points a b
points-between points a b le = range-list points (slice_index points) a b le (λ i d lt. get_or_default points i 0 d lt)

map-twice : {A B C : Type 0} (g : B → C) (f : A → B) (xs : List A) → map (λ x. g (f x)) xs ≡ map g (map f xs)
map-twice g f [] = refl
map-twice g f (x ∷ xs) = ap (λ t. g (f x) ∷ t) (map-twice g f xs)

pub types-between : (kept : List (Option Kept)) (a b : ℕ) → b ≤ length kept →
    map (λ i. type_of (kept_at kept i)) (places_between a b) ≡ map type_of (slice_range kept a b)
types-between kept a b le =
    map-twice type_of (kept_at kept) (places_between a b) ∙ ap (map type_of) (range-list kept (kept_at kept) a b le (kept_at-is kept))

-- one run more
pub map-run_more : {X : Type 0} (f : ℕ → X) (runs : List LevelRun) (i : ℕ) (d : LevelRun) → i < length runs →
    map f (run_places (take (i + 1) runs)) ≡ map f (run_places (take i runs)) ++ map f (own_places (get_or runs i d))
map-run_more f runs i d lt =
    ap (λ rs. map f (run_places rs)) (take_more runs i d lt)
    ∙ ap (map f) (sym (flat_map_more own_places [] (take i runs) (get_or runs i d)))
    ∙ map-append f (run_places (take i runs)) (own_places (get_or runs i d))

-- levels at places one part after the other
levels_at-append : (levels ps qs xs ys : List ℕ) → length ps ≡ length xs → levels_at levels (ps ++ qs) (xs ++ ys) ≡ levels_at (levels_at levels ps xs) qs ys
levels_at-append levels [] qs [] ys e = refl
levels_at-append levels [] qs (x ∷ xs) ys e = absurd (omega arith)
levels_at-append levels (p ∷ ps) qs [] ys e = absurd (omega arith)
levels_at-append levels (p ∷ ps) qs (x ∷ xs) ys e = levels_at-append (set levels p x) ps qs xs ys (omega arith)

levels-range : (levels xs : List ℕ) (a b n : ℕ) → b ≡ a → length xs ≡ n → levels_at levels (range_with_len b n) xs ≡ sets levels a xs
levels-range levels [] a b zero e long = refl
levels-range levels [] a b (suc n) e long = absurd (omega arith)
levels-range levels (x ∷ xs) a b zero e long = absurd (omega arith)
levels-range levels (x ∷ xs) a b (suc n) e long =
    ap (λ k. levels_at (set levels k x) (range_with_len (b + 1) n) xs) e ∙ levels-range (set levels a x) xs (suc a) (b + 1) n (omega arith) (omega arith)

-- levels at all places
pub levels-whole : (levels xs : List ℕ) (n : ℕ) → length levels ≡ n → length xs ≡ n → levels_at levels (below n) xs ≡ xs
levels-whole levels xs n long e =
    levels-range levels xs 0 0 n refl e ∙ sets-eq xs levels 0 (omega arith)
    ∙ ap (λ t. xs ++ t) (drop_all (0 + length xs) levels (omega arith)) ∙ append-nil xs

-- levels at the places of a run
put-run : (levels own : List ℕ) (a b : ℕ) → a ≤ b → b ≤ length levels → length own ≡ b - a → put_mid a (b - a) levels own ≡ levels_at levels (places_between a b) own
put-run levels own a b order le long =
    put_mid-paste a (b - a) levels own own (length own) refl long refl
    ∙ ap (λ t. (take a levels ++ t) ++ drop (a + length own) levels) (take-length own)
    ∙ sym (sets-eq own levels a (omega arith)) ∙ sym (levels-range levels own a a (b - a) refl long)

here : (runs : List LevelRun) (i : ℕ) (d : LevelRun) → i < length runs → run_places (drop i runs) ≡ own_places (get_or runs i d) ++ run_places (drop (i + 1) runs)
here runs i d lt = ap run_places (drop_more runs i d lt)

-- how many levels are left before a run
pub rest-long : (rest : List ℕ) (runs : List LevelRun) (i : ℕ) (d : LevelRun) → i < length runs → length rest ≡ length (run_places (drop i runs))
    → length rest ≡ ((get_or runs i d).end - (get_or runs i d).start) + length (run_places (drop (i + 1) runs))
rest-long rest runs i d lt long =
    long ∙ ap length (here runs i d lt) ∙ length-append (own_places (get_or runs i d)) (run_places (drop (i + 1) runs))
    ∙ ap (λ n. n + length (run_places (drop (i + 1) runs))) (length-range_with_len (get_or runs i d).start ((get_or runs i d).end - (get_or runs i d).start))

-- the levels of one run more
pub put-more : (levels rest first behind whole : List ℕ) (runs : List LevelRun) (i : ℕ) (d : LevelRun) → i < length runs
    → HasPlace (get_or runs i d) → (get_or runs i d).end ≤ length levels → rest ≡ first ++ behind
    → length first ≡ (get_or runs i d).end - (get_or runs i d).start
    → levels_at levels (run_places (drop i runs)) rest ≡ whole
    → levels_at (put_mid (get_or runs i d).start ((get_or runs i d).end - (get_or runs i d).start) levels first) (run_places (drop (i + 1) runs)) behind ≡ whole
put-more levels rest first behind whole runs i d lt some le parts long so_far =
    let r = get_or runs i d in
    let order : (get_or runs i d).start < (get_or runs i d).end = some in
    let same : length (own_places (get_or runs i d)) ≡ length first =
    length-range_with_len (get_or runs i d).start ((get_or runs i d).end - (get_or runs i d).start) ∙ sym long in
    ap (λ t. levels_at t (run_places (drop (i + 1) runs)) behind) (put-run levels first r.start r.end (omega arith) le long)
    ∙ sym (levels_at-append levels (own_places r) (run_places (drop (i + 1) runs)) first behind same)
    ∙ ap₂ (λ ps xs. levels_at levels ps xs) (sym (here runs i d lt)) (sym parts)
    ∙ so_far
