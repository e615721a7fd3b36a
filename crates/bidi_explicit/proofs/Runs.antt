-- Level runs, their places, and what is noted of them.
use Rattle.std.proofs.Common.{ℕ, zero, suc, ◌≡◌, ◌≤◌, ◌<◌, ◌+◌, ◌-◌, ◌==◌, ◌||◌, inl, inr, refl, ap, ap₂, subst, sym, ◌∙◌, List, [], ◌∷◌, ◌++◌, length, get_or, set, take, drop, replicate, Option, Some, None, Bool, true, false, arith}
use Rattle.std.specs.Prelude.{is_some, not, slice_range}
use Rattle.std.specs.List.{All, list_any, range_with_len}
use Rattle.std.proofs.Math.Bool.{or-false, or-true}
use Rattle.std.proofs.lemmas.Bool.{cases_Bool, eqb-true, false≢true}
use Rattle.std.proofs.lemmas.Bool.Decides.{eqb_tells}
use Rattle.std.proofs.lemmas.Grind.{get_or-set_at}
use Rattle.std.proofs.lemmas.List.{drop_at, flat_map_more, get_or-set_other, length-set, length-take, take-append-drop, take-append-le, take_at}
use Rattle.std.proofs.lemmas.List.Concat.{flat_map-append}
use Rattle.std.proofs.lemmas.List.Elements.{All-nil, All-drop, All-head, All-push, All-same, All-tail, All-take}
use Rattle.std.proofs.lemmas.List.Folds.{list_any-append}
use Rattle.bidi_explicit.specs.declared.kept.Kept.{Kept}
use Rattle.bidi_explicit.specs.declared.level_run.LevelRun.{LevelRun}
use Rattle.bidi_explicit.specs.Sequences.{kept_at, is_kept, same_level}
use Rattle.bidi_explicit.specs.LevelRuns.{places_between, own_places, run_places, IsLevelRun, IsEdge, IsRun, has_start, AreNoted}
use Rattle.bidi_explicit.proofs.Chains.{is_kept-within}

abbrev pub run_of : (start end : ℕ) → LevelRun
run_of start end = record { start = start; end = end }

pub run_places-more : (runs : List LevelRun) (r : LevelRun) → run_places (runs ++ r ∷ []) ≡ run_places runs ++ own_places r
run_places-more runs r = sym (flat_map_more own_places [] runs r)

between-first : (a b : ℕ) → a < b → places_between a b ≡ a ∷ places_between (a + 1) b
between-first a b lt =
    let count : b - a ≡ suc (b - (a + 1)) = omega arith in
    ap (range_with_len a) count

-- two kept places at the level of a third
pub same_level-both : (a b c : Option Kept) → same_level a b ≡ true → same_level a c ≡ true → same_level b c ≡ true
same_level-both (Some x) (Some y) (Some z) h k =
    let there : x.level ≡ y.level = eqb-true x.level y.level h in
    ap (λ l. l == z.level) (sym there) ∙ k
same_level-both (Some x) (Some y) None h k = cc
same_level-both (Some x) None c h k = cc
same_level-both None b c h k = cc

same_level-through : (a b c : Option Kept) → same_level a b ≡ true → same_level b c ≡ true → same_level a c ≡ true
same_level-through (Some x) (Some y) (Some z) h k =
    let there : x.level ≡ y.level = eqb-true x.level y.level h in
    ap (λ l. l == z.level) there ∙ k
same_level-through (Some x) (Some y) None h k = cc
same_level-through (Some x) None c h k = cc
same_level-through None b c h k = cc

pub same_level-out : (a b : Option Kept) → is_some a ≡ false → same_level a b ≡ false
same_level-out (Some x) b h = cc
same_level-out None b h = refl

same_level-gone : (a b : Option Kept) → is_some b ≡ false → same_level a b ≡ false
same_level-gone (Some x) (Some y) h = cc
same_level-gone (Some x) None h = refl
same_level-gone None b h = refl

not-kept : (places : List (Option Kept)) (i : ℕ) → length places ≤ i → is_kept places i ≡ false
not-kept places i past =
    elim (cases_Bool (is_kept places i)) [
      | inl kept ↦ absurd (let lt = is_kept-within places i kept in omega arith)
      | inr out ↦ out
    ]

-- inside a level run each place has the level of the one before it
pub run-beside : (places : List (Option Kept)) (start end : ℕ) → IsLevelRun places start end → (i : ℕ) → start ≤ i → suc i < end →
    same_level (kept_at places i) (kept_at places (suc i)) ≡ true
run-beside places start end run i from to =
    elim (eqb_tells i start) [
      | inl here ↦ (let at = here.1 in subst (λ k. same_level (kept_at places k) (kept_at places (suc i)) ≡ true) (sym at) (run (suc i) (omega arith) to))
      | inr other ↦ (let ne = other.1 in same_level-both (kept_at places start) (kept_at places i) (kept_at places (suc i)) (run i (omega arith) (omega arith)) (run (suc i) (omega arith) to))
    ]

-- a run ends where a place has not the level of its first
pub edge-behind : (places : List (Option Kept)) (start end : ℕ) → IsLevelRun places start end → start < end →
    same_level (kept_at places start) (kept_at places end) ≡ false → IsEdge places end
edge-behind places start end run lt apart = λ before at.
    elim (cases_Bool (same_level (kept_at places before) (kept_at places end))) [
      | inl same ↦ absurd (false≢true (sym apart ∙ from_first before at same))
      | inr other ↦ other
    ]
  where
    from_first : (before : ℕ) → before + 1 ≡ end → same_level (kept_at places before) (kept_at places end) ≡ true →
        same_level (kept_at places start) (kept_at places end) ≡ true
    from_first before at same =
        elim (eqb_tells before start) [
          | inl here ↦ subst (λ k. same_level (kept_at places k) (kept_at places end) ≡ true) here.1 same
          | inr other ↦ (let ne = other.1 in same_level-through (kept_at places start) (kept_at places before) (kept_at places end) (run before (omega arith) (omega arith)) same)
        ]

-- and behind the last place
pub edge-last : (places : List (Option Kept)) (start end : ℕ) → IsLevelRun places start end → start < end → length places ≤ end → IsEdge places end
edge-last places start end run lt past =
    edge-behind places start end run lt (same_level-gone (kept_at places start) (kept_at places end) (not-kept places end past))

-- a place is one of these
abbrev pub has_place : List ℕ → ℕ → Bool
has_place order i = list_any (λ j. i == j) order

has-range : (i a n : ℕ) → has_place (range_with_len a n) i ≡ true → (a ≤ i) × (i < a + n)
has-range i a zero h = absurd (false≢true h)
has-range i a (suc n) h =
    elim (eqb_tells i a) [
      | inl here ↦ (let at = here.1 in omega arith, let at = here.1 in omega arith)
      | inr other ↦
          let rest = has-range i (a + 1) n (sym (ap (λ b. b || has_place (range_with_len (a + 1) n) i) other.0) ∙ h) in
          (let from = rest.0 in omega arith, let to = rest.1 in omega arith)
    ]

module _ (places : List (Option Kept)) where
  -- no edge is inside a run
  no-edge : (r : LevelRun) → IsRun places r → (i : ℕ) → r.start < i → i < r.end → IsEdge places i → ⊥
  no-edge r run i from to edge =
      let at : suc (i - 1) ≡ i = omega arith in
      let beside = run-beside places r.start r.end run.level (i - 1) (omega arith) (omega arith) in
      false≢true (sym (edge (i - 1) (omega arith)) ∙ subst (λ k. same_level (kept_at places (i - 1)) (kept_at places k) ≡ true) at beside)

  own-start : (r : LevelRun) → IsRun places r → (i : ℕ) → IsEdge places i → has_place (own_places r) i ≡ (i == r.start)
  own-start r run i edge =
      elim (eqb_tells i r.start) [
        | inl here ↦
            ap (λ ps. has_place ps i) (between-first r.start r.end run.some)
            ∙ ap (λ b. b || has_place (places_between (r.start + 1) r.end) i) here.0 ∙ sym here.0
        | inr other ↦ outside other.0 other.1
      ]
    where
      outside : (i == r.start) ≡ false → (i ≡ r.start → ⊥) → has_place (own_places r) i ≡ (i == r.start)
      outside e ne =
          elim (cases_Bool (has_place (own_places r) i)) [
            | inl has ↦
                let within = has-range i r.start (r.end - r.start) has in
                let from : r.start ≤ i = within.0 in
                let to : i < r.start + (r.end - r.start) = within.1 in
                absurd (no-edge r run i (omega arith) (omega arith) edge)
            | inr lacks ↦ lacks ∙ sym e
          ]

  -- at an edge the runs have the place if one of them begins there
  pub has-start : (runs : List LevelRun) → All (IsRun places) runs → (i : ℕ) → IsEdge places i → has_place (run_places runs) i ≡ has_start runs i
  has-start [] whole i edge = refl
  has-start (r ∷ runs) whole i edge =
      list_any-append (λ j. i == j) (own_places r) (run_places runs)
      ∙ ap₂ (λ x y. x || y) (own-start r (All-head (IsRun places) r runs whole) i edge) (has-start runs (All-tail (IsRun places) r runs whole) i edge)

pub not-zero : (n : ℕ) → 0 < n → (n == 0) ≡ false
not-zero n some = elim (eqb_tells n 0) [ inl h ↦ absurd (let e = h.1 in omega arith) | inr h ↦ h.0 ]

zeros-at : (n i : ℕ) → ◌≡◌ {A = ℕ} (get_or {A = ℕ} (replicate n 0) i 0) 0
zeros-at zero i = refl
zeros-at (suc n) zero = refl
zeros-at (suc n) (suc i) = zeros-at n i

pub AreNoted-start : (places : List (Option Kept)) → AreNoted places [] (replicate (length places) 0)
AreNoted-start places = record {
  whole = All-nil (IsRun places);
  begun = λ i within. ap (λ e. e == 0) (zeros-at (length places) i);
  noted = λ i some. absurd (let none = zeros-at (length places) i in omega arith);
}

-- one run more
module _ (places : List (Option Kept)) (runs : List LevelRun) (ends : List ℕ) (start end : ℕ) (inside : start < length ends)
    (run : IsRun places (run_of start end)) (told : AreNoted places runs ends) where
  starts : (i : ℕ) → has_start (runs ++ run_of start end ∷ []) i ≡ (has_start runs i || i == start)
  starts i = list_any-append (λ (r : LevelRun). i == r.start) runs (run_of start end ∷ []) ∙ ap (λ b. has_start runs i || b) (or-false (i == start))

  more-begun : (i : ℕ) → i < length ends → (get_or (set ends start end) i 0 == 0) ≡ not (has_start (runs ++ run_of start end ∷ []) i)
  more-begun i within =
      elim (eqb_tells i start) [
        | inl here ↦
            ap (λ e. e == 0) (get_or-set_at ends start i end 0 here.1 inside) ∙ not-zero end (let some : start < end = run.some in omega arith)
            ∙ sym (ap not (starts i ∙ ap (λ b. has_start runs i || b) here.0 ∙ or-true (has_start runs i)))
        | inr other ↦
            ap (λ e. e == 0) (get_or-set_other ends start i end 0 other.1) ∙ told.begun i within
            ∙ sym (ap not (starts i ∙ ap (λ b. has_start runs i || b) other.0 ∙ or-false (has_start runs i)))
      ]

  more-noted : (i : ℕ) → 0 < get_or (set ends start end) i 0 → IsRun places (run_of i (get_or (set ends start end) i 0))
  more-noted i some =
      elim (eqb_tells i start) [
        | inl here ↦
            subst (λ n. IsRun places (run_of i n)) (sym (get_or-set_at ends start i end 0 here.1 inside))
            (subst (λ s. IsRun places (run_of s end)) (sym here.1) run)
        | inr other ↦
            let same = get_or-set_other ends start i end 0 other.1 in
            subst (λ n. IsRun places (run_of i n)) (sym same) (told.noted i (subst (λ n. 0 < n) same some))
      ]

  pub AreNoted-more : AreNoted places (runs ++ run_of start end ∷ []) (set ends start end)
  AreNoted-more = record {
    whole = All-push (IsRun places) runs (run_of start end) told.whole run;
    begun = λ i within. more-begun i (omega (arith, length-set ends start end));
    noted = more-noted;
  }

-- earlier runs stay
pub before-more : (old runs more : List LevelRun) (r : LevelRun) → take (length old) runs ≡ old → more ≡ runs ++ r ∷ [] → take (length old) more ≡ old
before-more old runs more r so_far is =
    let long = ap length so_far in
    ap (take (length old)) is ∙ take-append-le (length old) runs (r ∷ []) (omega (arith, long, length-take (length old) runs)) ∙ so_far

-- what holds of a list holds of both its parts
pub All-left : (P : ℕ → Type 0) (xs ys : List ℕ) → All P (xs ++ ys) → All P xs
All-left P xs ys all = All-same P xs (take (length xs) (xs ++ ys)) (sym (take_at xs ys (length xs) refl)) (All-take P (length xs) (xs ++ ys) all)

pub All-right : (P : ℕ → Type 0) (xs ys : List ℕ) → All P (xs ++ ys) → All P ys
All-right P xs ys all = All-same P ys (drop (length xs) (xs ++ ys)) (sym (drop_at xs ys (length xs) refl)) (All-drop P (length xs) (xs ++ ys) all)

-- what holds of all places of runs holds of those of a part
parts : (runs : List LevelRun) (n : ℕ) → run_places (take n runs) ++ run_places (drop n runs) ≡ run_places runs
parts runs n = sym (flat_map-append own_places (take n runs) (drop n runs)) ∙ ap run_places (take-append-drop n runs)

pub All-part : (P : ℕ → Type 0) (runs : List LevelRun) (a b : ℕ) → All P (run_places runs) → All P (run_places (slice_range runs a b))
All-part P runs a b all =
    let behind = All-right P (run_places (take a runs)) (run_places (drop a runs)) (All-same P _ _ (parts runs a) all) in
    All-left P (run_places (take (b - a) (drop a runs))) (run_places (drop (b - a) (drop a runs))) (All-same P _ _ (parts (drop a runs) (b - a)) behind)
