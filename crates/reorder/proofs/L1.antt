-- The rows of a line that L1 resets or keeps, from its end, and one step of the walk over its clusters.
use Rattle.std.proofs.Common.{ℕ, zero, suc, ◌≡◌, ◌+◌, ◌-◌, ◌<◌, ◌≤◌, refl, ap, sym, subst, ◌∙◌, List, [], ◌∷◌, ◌++◌, length, get_or, take, drop, map, replicate, sum, Bool, true, false, true≢false, arith}
use Rattle.std.specs.Prelude.{if◌then◌else◌, ◌||◌, ◌&&◌}
use Rattle.std.specs.List.{All}
use Rattle.std.proofs.lemmas.List.{length-map, drop_more, take_more, drop-drop, get_or-drop, length-take-le, take-append-le, take-take, take_all, drop_all, drop_at, append_assoc, append-nil}
use Rattle.std.proofs.lemmas.List.Sums.{sum_by_more, sum_by-take-le}
use Rattle.bg_types.specs.declared.class.Bidi.{Bidi}
use Rattle.bg_types.specs.declared.class.Bidi.TheVariants.{L}
use Rattle.unicode_tables.specs.Tables.{TableValues, bidi_of}
use Rattle.reorder.specs.LineLevels.{is_separator, is_run_class, may_be_reset, begins_reset, levels_after_l1, group_firsts}

-- ---- code points, from the last

-- the levels of the code points from a place on, where L1 has been applied
abbrev pub reset_from : ℕ → List Bidi → List ℕ → ℕ → List ℕ
reset_from para cs levels k = levels_after_l1 para (drop k cs) (drop k levels)

-- L1 has been applied to the code points from `end` on, and it resets the one before if that may be reset
pub record IsResetFrom (para : ℕ) (cs : List Bidi) (levels : List ℕ) (end : ℕ) (after : List ℕ) : Type 0 where
  pub is : after ≡ take end levels ++ reset_from para cs levels end
  pub before : 0 < end → may_be_reset (get_or cs (end - 1) L) ≡ true → begins_reset (drop (end - 1) cs) ≡ true

resets : (separator run later : Bool) → (separator || run) ≡ true → later ≡ true → (separator || (run && later)) ≡ true
resets true run later may on = refl
resets false true later may on = on
resets false false later may on = may

keeps : (separator run later : Bool) → separator ≡ false → later ≡ false → (separator || (run && later)) ≡ false
keeps true run later kept off = kept
keeps false true later kept off = off
keeps false false later kept off = refl

keeps-last : (separator run later : Bool) → (separator || run) ≡ false → (separator || (run && later)) ≡ false
keeps-last true run later kept = kept
keeps-last false true later kept = absurd (true≢false kept)
keeps-last false false later kept = refl

module _ (cs : List Bidi) where
  module _ (k : ℕ) (lt : k < length cs) where
    abbrev class : Bidi
    class = get_or cs k L

    abbrev later : Bool
    later = begins_reset (drop (k + 1) cs)

    first-resets : begins_reset (drop k cs) ≡ (is_separator class || (is_run_class class && later))
    first-resets = ap begins_reset (drop_more cs k L lt)

    separator-resets : is_separator class ≡ true → begins_reset (drop k cs) ≡ true
    separator-resets is = first-resets ∙ ap (λ b. b || (is_run_class class && later)) is

    run-resets : may_be_reset class ≡ true → later ≡ true → begins_reset (drop k cs) ≡ true
    run-resets may on = first-resets ∙ resets (is_separator class) (is_run_class class) later may on

    run-keeps : is_separator class ≡ false → later ≡ false → begins_reset (drop k cs) ≡ false
    run-keeps kept off = first-resets ∙ keeps (is_separator class) (is_run_class class) later kept off

    last-keeps : may_be_reset class ≡ false → begins_reset (drop k cs) ≡ false
    last-keeps kept = first-resets ∙ keeps-last (is_separator class) (is_run_class class) later kept

  -- each of a row is reset, where the last is
  module _ (first end : ℕ) (within : end ≤ length cs) (row : (k : ℕ) → first ≤ k → k < end → may_be_reset (get_or cs k L) ≡ true)
      (last : 0 < end → may_be_reset (get_or cs (end - 1) L) ≡ true → begins_reset (drop (end - 1) cs) ≡ true) where
    reset-at : (n k : ℕ) → k + suc n ≡ end → first ≤ k → begins_reset (drop k cs) ≡ true
    reset-at zero k is from =
        let at : k ≡ end - 1 = omega arith in
        subst (λ i. begins_reset (drop i cs) ≡ true) (sym at) (last (omega arith) (subst (λ i. may_be_reset (get_or cs i L) ≡ true) at (row k from (omega arith))))
    reset-at (suc n) k is from = run-resets k (omega arith) (row k from (omega arith)) (reset-at n (k + 1) (omega arith) (omega arith))

    row-is-reset : (k : ℕ) → first ≤ k → k < end → begins_reset (drop k cs) ≡ true
    row-is-reset k from to = reset-at (end - suc k) k (omega arith) from

  -- each of a row without separators is kept, where the last may not be reset
  module _ (first end : ℕ) (within : end ≤ length cs) (row : (k : ℕ) → first ≤ k → k < end → is_separator (get_or cs k L) ≡ false)
      (last : 0 < end → may_be_reset (get_or cs (end - 1) L) ≡ false) where
    kept-at : (n k : ℕ) → k + suc n ≡ end → first ≤ k → begins_reset (drop k cs) ≡ false
    kept-at zero k is from =
        let at : end - 1 ≡ k = omega arith in
        last-keeps k (omega arith) (subst (λ i. may_be_reset (get_or cs i L) ≡ false) at (last (omega arith)))
    kept-at (suc n) k is from = run-keeps k (omega arith) (row k from (omega arith)) (kept-at n (k + 1) (omega arith) (omega arith))

    row-is-kept : (k : ℕ) → first ≤ k → k < end → begins_reset (drop k cs) ≡ false
    row-is-kept k from to = kept-at (end - suc k) k (omega arith) from

module _ (para : ℕ) (cs : List Bidi) (levels : List ℕ) (same : length levels ≡ length cs) where
  from-on : (k : ℕ) (reset : Bool) → k < length cs → begins_reset (drop k cs) ≡ reset
      → reset_from para cs levels k ≡ (if reset then para else get_or levels k 0) ∷ reset_from para cs levels (k + 1)
  from-on k reset lt is =
      ap (λ l. levels_after_l1 para l (drop k levels)) (drop_more cs k L lt)
      ∙ ap (levels_after_l1 para (get_or cs k L ∷ drop (k + 1) cs)) (drop_more levels k 0 (omega arith))
      ∙ ap (λ b. (if b then para else get_or levels k 0) ∷ reset_from para cs levels (k + 1)) (sym (ap begins_reset (drop_more cs k L lt)) ∙ is)

  reset-row : (n k end : ℕ) → k + n ≡ end → end ≤ length cs → ((i : ℕ) → k ≤ i → i < end → begins_reset (drop i cs) ≡ true)
      → reset_from para cs levels k ≡ replicate n para ++ reset_from para cs levels end
  reset-row zero k end is within row = let at : k ≡ end = omega arith in ap (reset_from para cs levels) at
  reset-row (suc n) k end is within row =
      from-on k true (omega arith) (row k (omega arith) (omega arith))
      ∙ ap (λ l. para ∷ l) (reset-row n (k + 1) end (omega arith) within (λ i from to. row i (omega arith) to))

  kept-row : (n k end : ℕ) → k + n ≡ end → end ≤ length cs → ((i : ℕ) → k ≤ i → i < end → begins_reset (drop i cs) ≡ false)
      → take k levels ++ reset_from para cs levels k ≡ take end levels ++ reset_from para cs levels end
  kept-row zero k end is within row = let at : k ≡ end = omega arith in ap (λ i. take i levels ++ reset_from para cs levels i) at
  kept-row (suc n) k end is within row =
      ap (λ l. take k levels ++ l) (from-on k false (omega arith) (row k (omega arith) (omega arith)))
      ∙ sym (append_assoc (take k levels) (get_or levels k 0 ∷ []) (reset_from para cs levels (k + 1)))
      ∙ ap (λ l. l ++ reset_from para cs levels (k + 1)) (sym (take_more levels k 0 (omega arith)))
      ∙ kept-row n (k + 1) end (omega arith) within (λ i from to. row i (omega arith) to)

  pub rows-start : (after : List ℕ) (end : ℕ) → end ≡ length cs → after ≡ levels → IsResetFrom para cs levels end after
  rows-start after end whole copied =
      let none = drop_all end cs (omega arith) in
      record {
        is = copied ∙ sym (append-nil levels) ∙ ap (λ l. levels ++ levels_after_l1 para l (drop end levels)) (sym none)
            ∙ ap (λ l. l ++ reset_from para cs levels end) (sym (take_all end levels (omega arith)));
        before = λ some may. run-resets cs (end - 1) (omega arith) may (ap begins_reset (drop_all ((end - 1) + 1) cs (omega arith)));
      }

  -- a row more that is reset, and the one before it, up to a separator, that is kept
  pub rows-on : (after new : List ℕ) (stop start end : ℕ) → end ≤ length cs → IsResetFrom para cs levels end after
      → start ≤ end → ((k : ℕ) → start ≤ k → k < end → may_be_reset (get_or cs k L) ≡ true) → (0 < start → may_be_reset (get_or cs (start - 1) L) ≡ false)
      → new ≡ take start after ++ replicate (end - start) para ++ drop end after
      → stop ≤ start → ((k : ℕ) → stop ≤ k → k < start → is_separator (get_or cs k L) ≡ false) → (0 < stop → is_separator (get_or cs (stop - 1) L) ≡ true)
      → IsResetFrom para cs levels stop new
  rows-on after new stop start end within h order reset kept put below passed separator = record {
    is =
        let long = length-take-le end levels (omega arith) in
        let front : take start after ≡ take start levels =
        ap (take start) h.is ∙ take-append-le start (take end levels) (reset_from para cs levels end) (omega (arith, long)) ∙ take-take start end levels order in
        let behind : drop end after ≡ reset_from para cs levels end =
        ap (drop end) h.is ∙ drop_at (take end levels) (reset_from para cs levels end) end long in
        put
        ∙ ap (λ l. l ++ replicate (end - start) para ++ drop end after) front
        ∙ ap (λ l. take start levels ++ replicate (end - start) para ++ l) behind
        ∙ append_assoc (take start levels) (replicate (end - start) para) (reset_from para cs levels end)
        ∙ ap (λ l. take start levels ++ l) (sym (reset-row (end - start) start end (omega arith) within (row-is-reset cs start end within reset h.before)))
        ∙ sym (kept-row (start - stop) stop start (omega arith) (omega arith) (row-is-kept cs stop start (omega arith) passed kept));
    before = λ some may. separator-resets cs (stop - 1) (omega arith) (separator some);
  }

pub length-after_l1 : (para : ℕ) (cs : List Bidi) (levels : List ℕ) → length levels ≡ length cs → length (levels_after_l1 para cs levels) ≡ length cs
length-after_l1 para [] levels n = refl
length-after_l1 para (c ∷ cs) [] n = absurd (omega arith)
length-after_l1 para (c ∷ cs) (l ∷ ls) n = ap suc (length-after_l1 para cs ls (omega arith))

-- one for each code point
pub length-after_points : (para : ℕ) (tables : TableValues) (points : List ℕ) (cs : List Bidi) (levels after : List ℕ) → cs ≡ map (bidi_of tables) points
    → length levels ≡ length points → after ≡ levels_after_l1 para cs levels → length after ≡ length points
length-after_points para tables points cs levels after e n is =
    let same : length cs ≡ length points = ap length e ∙ length-map points (bidi_of tables) in
    ap length is ∙ length-after_l1 para cs levels (n ∙ sym same) ∙ same

-- ---- clusters, from the first

-- the firsts of the groups from one on
abbrev pub firsts_from : List ℕ → List ℕ → ℕ → ℕ → List ℕ
firsts_from sizes levels i start = group_firsts (drop i sizes) (drop start levels)

module _ (sizes levels : List ℕ) (i start : ℕ) (lt : i < length sizes) where
  pub firsts-on : (done whole new : List ℕ) (level : ℕ) → done ++ firsts_from sizes levels i start ≡ whole → level ≡ get_or levels start 0 → new ≡ done ++ level ∷ []
      → new ++ firsts_from sizes levels (i + 1) (start + get_or sizes i 0) ≡ whole
  firsts-on done whole new level so_far is put =
      let e : start + 0 ≡ start = omega arith in
      ap (λ l. l ++ firsts_from sizes levels (i + 1) (start + get_or sizes i 0)) put
      ∙ append_assoc done (level ∷ []) (firsts_from sizes levels (i + 1) (start + get_or sizes i 0))
      ∙ ap (λ l. done ++ l)
      (ap (λ x. x ∷ firsts_from sizes levels (i + 1) (start + get_or sizes i 0)) (is ∙ ap (λ n. get_or levels n 0) (sym e) ∙ sym (get_or-drop start levels 0 0))
      ∙ ap (λ l. get_or (drop start levels) 0 0 ∷ group_firsts (drop (i + 1) sizes) l)
      (sym (drop-drop (get_or sizes i 0) start levels))
      ∙ sym (ap (λ l. group_firsts l (drop start levels)) (drop_more sizes i 0 lt)))
      ∙ so_far

  -- where it starts, there is a level
  pub start-within : (whole : ℕ) → All (λ size. 0 < size) sizes → sum sizes ≡ whole → start ≡ sum (take i sizes)
      → (start < whole) × (start + get_or sizes i 0 ≡ sum (take (i + 1) sizes)) × (start + get_or sizes i 0 ≤ whole)
  start-within whole positive all at =
      let more = sum_by_more (λ (n : ℕ). n) sizes i 0 lt in
      let some = positive i 0 lt in
      let fits = sum_by-take-le (λ (n : ℕ). n) sizes (i + 1) in
      (omega arith, omega arith, omega arith)
