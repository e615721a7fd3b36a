-- Lists of which each but the last is at least half full.
use Rattle.std.proofs.Common.{◌≡◌, ℕ, zero, suc, ◌<◌, ◌≤◌, ◌+◌, ◌-◌, ◌*◌, ◌∙◌, List, [], ◌∷◌, length, take, drop, get_or, sym, ap, subst, length-append, length-drop, length-take-le, arith}
use Rattle.std.proofs.lemmas.List.{take-append-drop, length-set}
use Rattle.std.specs.Prelude.{insert, set}
use Rattle.rga_runs.specs.Blocks.{AreHalfFull}
use Rattle.rga_runs.proofs.Chunks.{row, at, split_long, split_low, split_high, split_row, at_low, at_high}

-- those behind the first
rest_halves : {X : Type 0} (x : List X) (xs : List (List X)) → AreHalfFull (x ∷ xs) → AreHalfFull xs
rest_halves x xs h q less = h (suc q) (omega (arith, less))

few_lists : {X : Type 0} (xs : List (List X)) → AreHalfFull xs → 128 * length xs ≤ length (row xs) + 128
few_lists [] h = omega arith
few_lists (x ∷ []) h = omega arith
few_lists (x ∷ y ∷ xs) h =
    let here : 128 ≤ length x = h 0 (omega arith) in
    omega (arith, here, few_lists (y ∷ xs) (rest_halves x (y ∷ xs) h), length-append x (row (y ∷ xs)))

-- a full list among them pays for the last
pub full_paid : {X : Type 0} (xs : List (List X)) (q : ℕ) → AreHalfFull xs → q < length xs → length (get_or xs q []) ≡ 256 → 128 * length xs ≤ length (row xs)
full_paid [] q h there full = absurd (omega arith)
full_paid (x ∷ []) zero h there full = omega (arith, length-append x [])
full_paid (x ∷ []) (suc q) h there full = absurd (omega arith)
full_paid (x ∷ y ∷ xs) zero h there full = omega (arith, few_lists (y ∷ xs) (rest_halves x (y ∷ xs) h), length-append x (row (y ∷ xs)))
full_paid (x ∷ y ∷ xs) (suc q) h there full =
    let here : 128 ≤ length x = h 0 (omega arith) in
    omega (arith, here, full_paid (y ∷ xs) q (rest_halves x (y ∷ xs) h) (omega arith) full, length-append x (row (y ∷ xs)))

-- so there is a spare one, where one more is paid for
pub some_spare : (spares n m : ℕ) → (spares ≡ 0 → n < 128 * m) → 128 * m ≤ n → 0 < spares
some_spare zero n m paid full = let less : n < 128 * m = paid (omega arith) in absurd (omega (arith, less, full))
some_spare (suc s) n m paid full = omega arith

no_shorter : {X : Type 0} (xs : List (List X)) (q r : ℕ) (y : List X) → length (get_or xs q []) ≤ length y → length (get_or xs r []) ≤ length (get_or (set xs q y) r [])
no_shorter [] zero r y more = omega arith
no_shorter [] (suc q) r y more = omega arith
no_shorter (x ∷ xs) zero zero y more = more
no_shorter (x ∷ xs) zero (suc r) y more = omega arith
no_shorter (x ∷ xs) (suc q) zero y more = omega arith
no_shorter (x ∷ xs) (suc q) (suc r) y more = no_shorter xs q r y more

-- one that becomes no shorter
pub AreHalfFull-set : {X : Type 0} (xs : List (List X)) (q : ℕ) (y : List X) → AreHalfFull xs → length (get_or xs q []) ≤ length y → AreHalfFull (set xs q y)
AreHalfFull-set xs q y h more r less =
    let there : 128 ≤ length (get_or xs r []) = h r (omega (arith, less, length-set xs q y)) in
    omega (arith, there, no_shorter xs q r y more)

halves_split : {X : Type 0} (xs : List (List X)) (q r : ℕ) (low high : List X) → AreHalfFull xs → q < length xs → 128 ≤ length low → (q + 1 < length xs → 128 ≤ length high) → r < length xs
    → 128 ≤ length (get_or (insert (set xs q low) (suc q) high) r [])
halves_split [] q r low high h there l m less = absurd (omega (arith, less))
halves_split (x ∷ xs) zero zero low high h there l m less = l
halves_split (x ∷ xs) zero (suc zero) low high h there l m less = m (omega (arith, less))
halves_split (x ∷ xs) zero (suc (suc r)) low high h there l m less = h (suc r) (omega (arith, less))
halves_split (x ∷ xs) (suc q) zero low high h there l m less = h 0 (omega (arith, there))
halves_split (x ∷ xs) (suc q) (suc r) low high h there l m less =
    halves_split xs q r low high (rest_halves x xs h) (omega (arith, there)) l (λ more. m (omega (arith, more))) (omega (arith, less))

-- two in place of one: the second may have fewer where it is the last
pub AreHalfFull-split : {X : Type 0} (xs : List (List X)) (q : ℕ) (low high : List X) → AreHalfFull xs → q < length xs → 128 ≤ length low → (q + 1 < length xs → 128 ≤ length high) → AreHalfFull (insert (set xs q low) (q + 1) high)
AreHalfFull-split xs q low high h there l m r less =
    let next : suc q ≡ q + 1 = omega arith in
    subst (λ n. 128 ≤ length (get_or (insert (set xs q low) n high) r [])) next
    (halves_split xs q r low high h there l m (omega (arith, less, split_long xs q low high there)))

-- ---- a full one in two

pub record IsInTwo {X : Type 0} (xs ys : List (List X)) (q cut : ℕ) : Type 0 where
  pub longer : length ys ≡ length xs + 1
  pub low : length (get_or ys q []) ≡ cut
  pub high : length (get_or ys (q + 1) []) + cut ≡ 256
  pub same : row ys ≡ row xs
  pub place_low : (i : ℕ) → at ys q i ≡ at xs q i
  pub place_high : (i : ℕ) → cut ≤ i → at ys (q + 1) (i - cut) ≡ at xs q i

pub in_two : {X : Type 0} (xs ys : List (List X)) (q cut : ℕ) → q < length xs → length (get_or xs q []) ≡ 256 → cut < 256
    → ys ≡ insert (set xs q (take cut (get_or xs q []))) (q + 1) (drop cut (get_or xs q [])) → IsInTwo xs ys q cut
in_two xs ys q cut there full most is =
    let x = get_or xs q [] in
    let low = take cut x in
    let high = drop cut x in
    let l : length low ≡ cut = length-take-le cut x (omega (arith, full, most)) in
    let h : length (get_or ys (q + 1) []) ≡ length high = ap (λ zs. length (get_or zs (q + 1) [])) is ∙ ap length (split_high xs q low high there) in
    record {
      longer = ap length is ∙ split_long xs q low high there;
      low = ap (λ zs. length (get_or zs q [])) is ∙ ap length (split_low xs q low high there) ∙ l;
      high = omega (arith, h, length-drop cut x, full, most);
      same = ap row is ∙ split_row xs q low high there (sym (take-append-drop cut x));
      place_low = λ i. ap (λ zs. at zs q i) is ∙ at_low xs q i low high there;
      place_high = λ i far. ap (λ zs. at zs (q + 1) (i - cut)) is ∙ at_high xs q (i - cut) low high there ∙ ap (at xs q) (omega (arith, l, far));
    }
