-- What the word of a character is, and how long it is.
use Rattle.std.proofs.Common.{◌≡◌, ℕ, zero, suc, ◌+◌, ◌-◌, ◌/◌, ◌%◌, ◌^◌, ◌<◌, ◌≤◌, Bool, true, false, cond, eqb, List, [], ◌∷◌, ◌++◌, length, inl, inr, refl, sym, ap, ◌∙◌, arith}
use Rattle.std.specs.Prelude.{replicate}
use Rattle.std.specs.Fmt.{digits, digits_onto, digit_glyph}
use Rattle.std.proofs.Math.Nat.{pow-suc}
use Rattle.std.proofs.lemmas.Bool.{cases_lt}
use borrow.Author.Tests.{eqb-false, eq-eqb, ne_eqb}
use Rattle.op_listing.specs.Listing.{scalar_word}

-- ---- the digits, from the last on

last_digit : (fuel n : ℕ) (acc : List ℕ) → n < 16 → digits_onto (suc fuel) 16 true n acc ≡ digit_glyph true (n % 16) ∷ acc
last_digit fuel n acc small = ap (λ t. cond t (digit_glyph true (n % 16) ∷ acc) (digits_onto fuel 16 true (n / 16) (digit_glyph true (n % 16) ∷ acc))) (eq-eqb (n / 16) 0 (omega arith))

next_digit : (fuel n : ℕ) (acc : List ℕ) → 16 ≤ n → digits_onto (suc fuel) 16 true n acc ≡ digits_onto fuel 16 true (n / 16) (digit_glyph true (n % 16) ∷ acc)
next_digit fuel n acc large = ap (λ t. cond t (digit_glyph true (n % 16) ∷ acc) (digits_onto fuel 16 true (n / 16) (digit_glyph true (n % 16) ∷ acc))) (ne_eqb (n / 16) 0 (λ e. omega (arith, e, large)))

-- the digit of a place, of which so many places come after
abbrev digit_of : (n unit : ℕ) → ℕ
digit_of n unit = digit_glyph true (n / unit % 16)

-- the last four digits
abbrev four_of : ℕ → List ℕ
four_of n = digit_of n 4096 ∷ digit_of n 256 ∷ digit_of n 16 ∷ digit_glyph true (n % 16) ∷ []

same_digit : (unit n m : ℕ) → m % 16 ≡ n / unit % 16 → digit_glyph true (m % 16) ≡ digit_of n unit
same_digit unit n m e = ap (digit_glyph true) e

one_digit : (n : ℕ) → n < 16 → digits 16 true n ≡ digit_glyph true (n % 16) ∷ []
unfolding digits
one_digit n small = last_digit 63 n [] small

two_digits : (n : ℕ) → 16 ≤ n → n < 256 → digits 16 true n ≡ digit_of n 16 ∷ digit_glyph true (n % 16) ∷ []
unfolding digits
two_digits n large small = next_digit 63 n [] large ∙ last_digit 62 (n / 16) (digit_glyph true (n % 16) ∷ []) (omega (arith, small))

three_digits : (n : ℕ) → 256 ≤ n → n < 4096 → digits 16 true n ≡ digit_of n 256 ∷ digit_of n 16 ∷ digit_glyph true (n % 16) ∷ []
unfolding digits
three_digits n large small =
    let last = digit_glyph true (n % 16) ∷ [] in
    next_digit 63 n [] (omega (arith, large))
    ∙ next_digit 62 (n / 16) last (omega (arith, large))
    ∙ last_digit 61 (n / 16 / 16) (digit_of n 16 ∷ last) (omega (arith, small))
    ∙ ap (λ g. g ∷ digit_of n 16 ∷ last) (same_digit 256 n (n / 16 / 16) (omega arith))

-- a number of four digits or more, to its fifth digit from the end
from_the_fifth : (n : ℕ) → 4096 ≤ n → digits 16 true n ≡ digits_onto 61 16 true (n / 16 / 16 / 16) (digit_of n 256 ∷ digit_of n 16 ∷ digit_glyph true (n % 16) ∷ [])
unfolding digits
from_the_fifth n large =
    let last = digit_glyph true (n % 16) ∷ [] in
    next_digit 63 n [] (omega (arith, large))
    ∙ next_digit 62 (n / 16) last (omega (arith, large))
    ∙ next_digit 61 (n / 16 / 16) (digit_of n 16 ∷ last) (omega (arith, large))
    ∙ ap (λ g. digits_onto 61 16 true (n / 16 / 16 / 16) (g ∷ digit_of n 16 ∷ last)) (same_digit 256 n (n / 16 / 16) (omega arith))

four_digits : (n : ℕ) → 4096 ≤ n → n < 65_536 → digits 16 true n ≡ four_of n
four_digits n large small =
    let last = digit_of n 256 ∷ digit_of n 16 ∷ digit_glyph true (n % 16) ∷ [] in
    from_the_fifth n large ∙ last_digit 60 (n / 16 / 16 / 16) last (omega (arith, small)) ∙ ap (λ g. g ∷ last) (same_digit 4096 n (n / 16 / 16 / 16) (omega arith))

-- a number of five digits or more
above_four : (n : ℕ) → 65_536 ≤ n → digits 16 true n ≡ digits_onto 60 16 true (n / 65_536) (four_of n)
above_four n large =
    let last = digit_of n 256 ∷ digit_of n 16 ∷ digit_glyph true (n % 16) ∷ [] in
    from_the_fifth n (omega (arith, large))
    ∙ next_digit 60 (n / 16 / 16 / 16) last (omega (arith, large))
    ∙ (λ i. digits_onto 60 16 true (above i) (same_digit 4096 n (n / 16 / 16 / 16) (omega arith) i ∷ last))
  where
    above : n / 16 / 16 / 16 / 16 ≡ n / 65_536
    above = omega arith

five_digits : (n : ℕ) → 65_536 ≤ n → n < 1_048_576 → digits 16 true n ≡ digit_of n 65_536 ∷ four_of n
five_digits n large small = above_four n large ∙ last_digit 59 (n / 65_536) (four_of n) (omega (arith, small))

six_digits : (n : ℕ) → 1_048_576 ≤ n → n < 16_777_216 → digits 16 true n ≡ digit_of n 1_048_576 ∷ digit_of n 65_536 ∷ four_of n
six_digits n large small =
    above_four n (omega (arith, large))
    ∙ next_digit 59 (n / 65_536) (four_of n) (omega (arith, large))
    ∙ last_digit 58 (n / 65_536 / 16) (digit_of n 65_536 ∷ four_of n) (omega (arith, small))
    ∙ ap (λ g. g ∷ digit_of n 65_536 ∷ four_of n) (same_digit 1_048_576 n (n / 65_536 / 16) (omega arith))

-- ---- the word of a character

-- zeros before digits, to four
abbrev padded : List ℕ → List ℕ
padded ds = replicate (4 - length ds) 48 ++ ds

zero_at : (n unit : ℕ) → n / unit % 16 ≡ 0 → 48 ≡ digit_of n unit
zero_at n unit e = ap (digit_glyph true) (sym e)

pub scalar_word-of_four : (n : ℕ) → n < 65_536 → scalar_word n ≡ four_of n
scalar_word-of_four n small = elim (cases_lt n 16) [ inl one ↦ of_one one | inr more ↦ elim (cases_lt n 256) [ inl two ↦ of_two more two | inr above ↦ of_more above ] ] where
  last : List ℕ
  last = digit_glyph true (n % 16) ∷ []

  of_one : n < 16 → scalar_word n ≡ four_of n
  of_one one = ap padded (one_digit n one) ∙ (λ i. zero_at n 4096 (omega (arith, one)) i ∷ zero_at n 256 (omega (arith, one)) i ∷ zero_at n 16 (omega (arith, one)) i ∷ last)

  of_two : 16 ≤ n → n < 256 → scalar_word n ≡ four_of n
  of_two more two = ap padded (two_digits n more two) ∙ (λ i. zero_at n 4096 (omega (arith, two)) i ∷ zero_at n 256 (omega (arith, two)) i ∷ digit_of n 16 ∷ last)

  of_more : 256 ≤ n → scalar_word n ≡ four_of n
  of_more above = elim (cases_lt n 4096) [
    | inl three ↦ ap padded (three_digits n above three) ∙ ap (λ g. g ∷ digit_of n 256 ∷ digit_of n 16 ∷ last) (zero_at n 4096 (omega (arith, three)))
    | inr four ↦ ap padded (four_digits n four small)
  ]

pub scalar_word-of_five : (n : ℕ) → 65_536 ≤ n → n < 1_048_576 → scalar_word n ≡ digit_of n 65_536 ∷ four_of n
unfolding digits
scalar_word-of_five n large small = ap padded (five_digits n large small)

pub scalar_word-of_six : (n : ℕ) → 1_048_576 ≤ n → n < 16_777_216 → scalar_word n ≡ digit_of n 1_048_576 ∷ digit_of n 65_536 ∷ four_of n
unfolding digits
scalar_word-of_six n large small = ap padded (six_digits n large small)

-- the last four digits, put one before the other
pub four_put : (n : ℕ) (rest a b c d : List ℕ) → a ≡ digit_glyph true (n % 16) ∷ rest → b ≡ digit_of n 16 ∷ a → c ≡ digit_of n 256 ∷ b → d ≡ digit_of n 4096 ∷ c → d ≡ four_of n ++ rest
four_put n rest a b c d last third second first =
    first ∙ ap (λ (w : List ℕ). digit_of n 4096 ∷ w) (second ∙ ap (λ (w : List ℕ). digit_of n 256 ∷ w) (third ∙ ap (λ (w : List ℕ). digit_of n 16 ∷ w) last))

-- ---- how many digits there are

digit_step : (k fuel n : ℕ) (acc : List ℕ) (t : Bool) → eqb (n / 16) 0 ≡ t → n < 16 ^ (suc k)
    → ((j : ℕ) → n / 16 < 16 ^ (suc j) → length (digits_onto fuel 16 true (n / 16) (digit_glyph true (n % 16) ∷ acc)) ≤ suc j + length (digit_glyph true (n % 16) ∷ acc))
    → length (cond t (digit_glyph true (n % 16) ∷ acc) (digits_onto fuel 16 true (n / 16) (digit_glyph true (n % 16) ∷ acc))) ≤ suc k + length acc
digit_step k fuel n acc true e small more = omega arith
digit_step zero fuel n acc false e small more = let apart = eqb-false (n / 16) 0 e in let one = pow-suc 16 0 in absurd (omega (arith, apart, small, one))
digit_step (suc j) fuel n acc false e small more =
    let less : n / 16 < 16 ^ (suc j) = let power = pow-suc 16 (suc j) in omega (arith, small, power) in
    let rest = more j less in
    omega (arith, rest)

digits_at : (k fuel n : ℕ) (acc : List ℕ) → n < 16 ^ (suc k) → length (digits_onto fuel 16 true n acc) ≤ suc k + length acc
digits_at k zero n acc small = omega arith
digits_at k (suc fuel) n acc small = digit_step k fuel n acc (eqb (n / 16) 0) refl small (λ j less. digits_at j fuel (n / 16) (digit_glyph true (n % 16) ∷ acc) less)

pub length-hexadecimal : (n : ℕ) → n < 16 ^ 6 → length (digits 16 true n) ≤ 6
unfolding digits
length-hexadecimal n small = omega (arith, digits_at 5 64 n [] small)
