-- Codes: which digits spell one.
use Rattle.std.proofs.Common.{◌≡◌, ℕ, ◌+◌, ◌*◌, ◌^◌, ◌<◌, ◌≤◌, Bool, true, false, List, length, get_or, take, Option, Some, None, Ok, Err, refl, add-one, ap, ◌∙◌, sym, arith, leb, cond, ⊎_elim}
use Rattle.std.specs.Prelude.{◌&&◌}
use Rattle.std.specs.Char.{digit_value, IsScalar, OutOfScalarRange, InScalarRange}
use Rattle.std.specs.Option.{MatchOption, SomeIff, ok_or}
use Rattle.std.specs.List.{list_all}
use Rattle.std.proofs.Math.Nat.{pow-le-pow_right, pow-suc}
use Rattle.std.proofs.lemmas.Bool.{le-leb, lt-leb, lt-ltb, le-ltb, cases_lt}
use Rattle.std.proofs.lemmas.List.{take_all}
use Rattle.std.proofs.lemmas.List.Folds.{list_all_at, list_all_more}
use Rattle.std.proofs.lemmas.List.Sums.{fold_more}
use Rattle.ucd_files.specs.declared.fault.Cause.TheVariants.{BadCode, BadRange}
use Rattle.ucd_files.specs.Code.{code_of, is_surrogate, hex_value, is_hex_digit, ends_of, range_of}

surrogate_low : (c : ℕ) → c ≤ 0x10FFFF → OutOfScalarRange c → 0xD800 ≤ c
surrogate_low c h out = ⊎_elim (λ r. r.0) (λ l. omega arith) out

surrogate_high : (c : ℕ) → c ≤ 0x10FFFF → OutOfScalarRange c → c ≤ 0xDFFF
surrogate_high c h out = ⊎_elim (λ r. r.1) (λ l. absurd (omega arith)) out

and-false : (a : Bool) → (a && false) ≡ false
and-false true = refl
and-false false = refl

not_surrogate : (c : ℕ) → InScalarRange c → is_surrogate c ≡ false
not_surrogate c range = ⊎_elim
    (λ l. ap (λ b. b && leb c 0xDFFF) (lt-leb 0xD800 c l))
    (λ r. ap (λ b. leb 0xD800 c && b) (lt-leb c 0xDFFF (omega arith)) ∙ and-false (leb 0xD800 c)) range

-- the number that some of six digits spell is small
pub few_digits : (n i : ℕ) → n < 16 ^ i → i < 6 → n < 1048576
few_digits n i h k = omega (arith, pow-le-pow_right {n = 16} (omega arith) {i = i} {j = 5} (omega arith))

-- one more digit
pub spelled-more : (digits : List ℕ) (i code b d : ℕ) → i < length digits → b ≡ get_or digits i 0 → digit_value b < 16 → d ≡ digit_value b
    → code ≡ hex_value (take i digits) → list_all is_hex_digit (take i digits) ≡ true → code < 16 ^ i
    → (code * 16 + d ≡ hex_value (take (i + 1) digits)) × (list_all is_hex_digit (take (i + 1) digits) ≡ true) × (code * 16 + d < 16 ^ (i + 1))
spelled-more digits i code b d h is small value spelled all less = (
  rw (value, is, spelled) (sym (fold_more (λ n x. n * 16 + digit_value x) 0 digits i 0 h)),
  list_all_more is_hex_digit digits i 0 h ∙ rw (all, ← is) (lt-ltb (digit_value b) 16 small),
  rw (add-one i, pow-suc 16 i) (omega arith),
)

pub code_of-short : (digits : List ℕ) → length digits < 4 → code_of digits ≡ None
unfolding code_of
code_of-short digits h = rw (lt-leb 4 (length digits) h) refl

pub code_of-long : (digits : List ℕ) → 6 < length digits → code_of digits ≡ None
unfolding code_of
code_of-long digits h = rw (le-leb 4 (length digits) (omega arith), lt-leb (length digits) 6 h) refl

not_hex_digit : (b : ℕ) → (digit_value b < 16 → ⊥) → is_hex_digit b ≡ false
not_hex_digit b above = ⊎_elim (λ l. absurd (above l)) (λ l. le-ltb (digit_value b) 16 l) (cases_lt (digit_value b) 16)

-- a digit that isn't hexadecimal
pub code_of-other : (digits : List ℕ) (i b : ℕ) → 4 ≤ length digits → length digits ≤ 6 → i < length digits → b ≡ get_or digits i 0 → (digit_value b < 16 → ⊥)
    → code_of digits ≡ None
unfolding code_of
code_of-other digits i b h k l is above =
    rw (le-leb 4 (length digits) h, le-leb (length digits) 6 k, list_all_at is_hex_digit digits i 0 l (ap is_hex_digit (sym is) ∙ not_hex_digit b above)) refl

-- the number that all n digits spell
pub code_of-great : (digits : List ℕ) (n code : ℕ) → length digits ≤ n → 4 ≤ length digits → length digits ≤ 6 → code ≡ hex_value (take n digits)
    → list_all is_hex_digit (take n digits) ≡ true → 0x10FFFF < code → code_of digits ≡ None
unfolding code_of
code_of-great digits n code l h k is all g =
    let whole = take_all n digits l in
    let spelled : code ≡ hex_value digits = is ∙ ap hex_value whole in
    rw (le-leb 4 (length digits) h, le-leb (length digits) 6 k, sym (ap (list_all is_hex_digit) whole) ∙ all, ← spelled, lt-leb code 0x10FFFF g) refl

pub code_of-spelled : (digits : List ℕ) (n code : ℕ) → length digits ≤ n → 4 ≤ length digits → length digits ≤ 6 → code ≡ hex_value (take n digits)
    → list_all is_hex_digit (take n digits) ≡ true → code ≤ 0x10FFFF → code_of digits ≡ Some code
unfolding code_of
code_of-spelled digits n code l h k is all g =
    let whole = take_all n digits l in
    let spelled : code ≡ hex_value digits = is ∙ ap hex_value whole in
    rw (le-leb 4 (length digits) h, le-leb (length digits) 6 k, sym (ap (list_all is_hex_digit) whole) ∙ all, ← spelled, le-leb code 0x10FFFF g) refl

-- what `char::from_u32` answers at a code
pub from_u32_is : (o : Option ℕ) (c : ℕ) → c ≤ 0x10FFFF → MatchOption o (OutOfScalarRange c) (λ _. InScalarRange c) → SomeIff o (IsScalar c) c
    → o ≡ cond (is_surrogate c) None (Some c)
from_u32_is None c h cases value = rw (le-leb 0xD800 c (surrogate_low c h cases), le-leb c 0xDFFF (surrogate_high c h cases)) refl
from_u32_is (Some d) c h cases value = rw (not_surrogate c cases) (ap Some value.1)

-- a range that falls
pub range_of-falling : (field : List ℕ) (first last : ℕ) → ok_or (code_of (ends_of field).0) BadCode ≡ Ok first → ok_or (code_of (ends_of field).1) BadCode ≡ Ok last → last < first
    → range_of field ≡ Err BadRange
unfolding range_of
range_of-falling field first last f l h = rw (f, l, lt-leb first last h) refl
