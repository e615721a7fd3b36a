-- The numbers read from a word are those that the word writes.
use Rattle.std.proofs.Common.{◌≡◌, ℕ, ◌+◌, ◌*◌, ◌^◌, ◌<◌, ◌≤◌, Bool, true, false, cond, ◌&&◌, ltb, leb, List, [], ◌∷◌, length, get_or, take, Some, None, refl, sym, ap, ◌∙◌, inl, inr, ◌⊎◌, arith, subst, suc, zero}
use Rattle.std.proofs.Math.Nat.{pow-le-pow_right}
use Rattle.std.specs.Char.{digit_value}
use Rattle.std.specs.Str.Parse.{AllDigits, digits_value}
use Rattle.std.proofs.lemmas.Bool.{cases_lt, and_parts}
use Rattle.std.proofs.lemmas.List.{length-take-le}
use Rattle.std.proofs.lemmas.Int.Digits.{digits_value-lt, digits_value_more, digits_more}
use Rattle.std.proofs.lemmas.Str.Parse.{digits_value-take-le}
use borrow.Author.Tests.{ltb-true, leb-true, lt-ltb, le-leb, lt-leb}
use Rattle.op_listing.specs.Number.{is_digits, number_in, up_to}
use Rattle.op_listing.specs.Line.{counter_in}

-- ---- digits

none_of : (a b c : Bool) → (b ≡ false) ⊎ (c ≡ false) → (a && b && c) ≡ false
none_of true true true (inl e) = e
none_of true true true (inr e) = e
none_of true true false e = refl
none_of true false c e = refl
none_of false b c e = refl

pub AllDigits-from : (base : ℕ) (word : List ℕ) → is_digits base word ≡ true → AllDigits base word
AllDigits-from base [] e = tt
AllDigits-from base (c ∷ cs) e = let both = and_parts (ltb (digit_value c) base) (is_digits base cs) e in (ltb-true (digit_value c) base both.0, AllDigits-from base cs both.1)

pub is_digits-from : (base : ℕ) (word : List ℕ) → AllDigits base word → is_digits base word ≡ true
is_digits-from base [] h = refl
is_digits-from base (c ∷ cs) h = λ i. lt-ltb (digit_value c) base h.0 i && is_digits-from base cs h.1 i

pub all_at : (base : ℕ) (word : List ℕ) (i : ℕ) → AllDigits base word → i < length word → digit_value (get_or word i 0) < base
all_at base [] i h lt = absurd (omega (arith, lt))
all_at base (c ∷ cs) zero h lt = h.0
all_at base (c ∷ cs) (suc i) h lt = all_at base cs i h.1 (omega (arith, lt))

-- ---- the loop over the digits

pub more_digits : (base : ℕ) (word : List ℕ) (i value byte digit : ℕ) → i < length word → AllDigits base (take i word) → value ≡ digits_value base (take i word) → byte ≡ get_or word i 0
    → digit_value byte < base → digit ≡ digit_value byte → AllDigits base (take (i + 1) word) × (value * base + digit ≡ digits_value base (take (i + 1) word))
more_digits base word i value byte digit within all is read small digit_is = (
  digits_more base word i within all (subst (λ (b : ℕ). digit_value b < base) read small),
  (λ k. is k * base + (digit_is ∙ ap digit_value read) k) ∙ sym (digits_value_more base word i within),
)

pub no_digit : (base : ℕ) (word : List ℕ) (i byte : ℕ) → i < length word → byte ≡ get_or word i 0 → ¬ (digit_value byte < base) → ¬ (AllDigits base word × (digits_value base word < 2 ^ 32))
no_digit base word i byte within read large h = large (subst (λ (b : ℕ). digit_value b < base) (sym read) (all_at base word i h.0 within))

pub too_large : (base : ℕ) (word : List ℕ) (i value digit : ℕ) → 1 ≤ base → value * base + digit ≡ digits_value base (take (i + 1) word) → ¬ (value * base + digit < 2 ^ 32)
    → ¬ (AllDigits base word × (digits_value base word < 2 ^ 32))
too_large base word i value digit some is large h =
    let part = digits_value-take-le base word (i + 1) some in
    let small = h.1 in
    large (let n = value * base + digit in omega (arith, is, part, small))

-- so many digits write a number below the base's power
pub few_digits : (base most : ℕ) (bytes : List ℕ) (count value : ℕ) → 0 < base → count ≤ length bytes → count ≤ most → AllDigits base (take count bytes) → value ≡ digits_value base (take count bytes)
    → value < base ^ most
few_digits base most bytes count value some within few all is =
    let small = digits_value-lt base (take count bytes) all in
    let long = length-take-le count bytes within in
    let power = pow-le-pow_right {n = base} some {i = length (take count bytes)} {j = most} (omega (arith, long, few)) in
    omega (arith, is, small, power)

-- ---- words of a right or a wrong length

pub number_in-some : (base least most : ℕ) (word : List ℕ) → AllDigits base word → least ≤ length word → length word ≤ most → number_in base least most word ≡ Some (digits_value base word)
number_in-some base least most word all long short =
    let d = is_digits-from base word all in
    let a = le-leb least (length word) long in
    let b = le-leb (length word) most short in
    λ i. cond (d i && a i && b i) (Some (digits_value base word)) None

pub number_in-none : (base least most : ℕ) (word : List ℕ) → is_digits base word ≡ false → number_in base least most word ≡ None
number_in-none base least most word e = λ i. cond (e i && leb least (length word) && leb (length word) most) (Some (digits_value base word)) None

pub number_in-wrong : (base least most : ℕ) (word : List ℕ) → (length word < least) ⊎ (most < length word) → number_in base least most word ≡ None
number_in-wrong base least most word (inl short) =
    ap (λ t. cond t (Some (digits_value base word)) None) (none_of (is_digits base word) (leb least (length word)) (leb (length word) most) (inl (lt-leb least (length word) short)))
number_in-wrong base least most word (inr long) =
    ap (λ t. cond t (Some (digits_value base word)) None) (none_of (is_digits base word) (leb least (length word)) (leb (length word) most) (inr (lt-leb (length word) most long)))

pub up_to-some : (limit n : ℕ) → n ≤ limit → up_to limit (Some n) ≡ Some n
up_to-some limit n le = ap (λ t. cond t (Some n) None) (le-leb n limit le)

pub up_to-above : (limit n : ℕ) → limit < n → up_to limit (Some n) ≡ None
up_to-above limit n lt = ap (λ t. cond t (Some n) None) (lt-leb n limit lt)

-- ---- what a word of a right length writes

pub number_written : (base least most : ℕ) (word : List ℕ) → AllDigits base word → digits_value base word < 2 ^ 32 → least ≤ length word → length word ≤ most
    → up_to 4_294_967_295 (number_in base least most word) ≡ Some (digits_value base word)
number_written base least most word all small long short =
    ap (up_to 4_294_967_295) (number_in-some base least most word all long short) ∙ up_to-some 4_294_967_295 (digits_value base word) (omega (arith, small))

pub no_number : (base least most : ℕ) (word : List ℕ) → ¬ (AllDigits base word × (digits_value base word < 2 ^ 32)) → least ≤ length word → length word ≤ most → up_to 4_294_967_295 (number_in base least most word) ≡ None
no_number base least most word h long short = by_digits (is_digits base word) refl where
  by_digits : (t : Bool) → is_digits base word ≡ t → up_to 4_294_967_295 (number_in base least most word) ≡ None
  by_digits false e = ap (up_to 4_294_967_295) (number_in-none base least most word e)
  by_digits true e =
      let all = AllDigits-from base word e in
      let large : 4_294_967_295 < digits_value base word = elim (cases_lt 4_294_967_295 (digits_value base word)) [ inl lt ↦ lt | inr le ↦ absurd (h (all, omega (arith, le))) ] in
      ap (up_to 4_294_967_295) (number_in-some base least most word all long short) ∙ up_to-above 4_294_967_295 (digits_value base word) large

pub counter_wrong : (word : List ℕ) → (length word < 1) ⊎ (10 < length word) → counter_in word ≡ None
counter_wrong word wrong = ap (up_to 4_294_967_295) (number_in-wrong 10 1 10 word wrong)

-- a word of few digits always writes a number that fits
pub few_fit : (base least most : ℕ) (word : List ℕ) → 0 < base → base ^ most ≤ 2 ^ 32 → up_to 4_294_967_295 (number_in base least most word) ≡ number_in base least most word
few_fit base least most word some few = by_test (is_digits base word && leb least (length word) && leb (length word) most) refl where
  v : ℕ
  v = digits_value base word

  by_test : (t : Bool) → (is_digits base word && leb least (length word) && leb (length word) most) ≡ t → up_to 4_294_967_295 (cond t (Some v) None) ≡ cond t (Some v) None
  by_test false e = refl
  by_test true e =
      let last = and_parts (is_digits base word && leb least (length word)) (leb (length word) most) e in
      let all = AllDigits-from base word (and_parts (is_digits base word) (leb least (length word)) last.0).0 in
      let small = digits_value-lt base word all in
      let most_of = pow-le-pow_right {n = base} some {i = length word} {j = most} (leb-true (length word) most last.1) in
      up_to-some 4_294_967_295 v (omega (arith, small, most_of, few))
