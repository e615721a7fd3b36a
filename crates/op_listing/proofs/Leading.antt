-- The digits at the front of a word, and the word's first point.
use Rattle.std.proofs.Common.{◌≡◌, ℕ, ◌+◌, ◌<◌, ◌≤◌, Bool, true, false, ◌==◌, List, length, get_or, take, Option, Some, None, Result, Ok, Err, refl, sym, ap, ◌∙◌, inl, inr, arith, subst, true≢false, not, ◌⊎◌}
use Rattle.std.specs.Prelude.{MatchOption, OkIff}
use Rattle.std.specs.Result.{result_ok}
use Rattle.std.specs.Char.{digit_value}
use Rattle.std.specs.List.{before_first, after_first, position_or_len}
use Rattle.std.specs.Str.Parse.{AllDigits, digits_value}
use Rattle.std.proofs.lemmas.Bool.{cases_lt}
use Rattle.std.proofs.lemmas.List.{length-take-le, get_or-take, drop_all}
use Rattle.std.proofs.lemmas.List.Sums.{position_or_len_is, passes_at_first, prefix_len-le-length}
use Rattle.std.proofs.lemmas.Str.Parse.{digit_from_value}
use borrow.Author.Tests.{eq-eqb, ne_eqb, eqb-true}
use Rattle.op_listing.specs.Number.{is_digits, number_in, up_to}
use Rattle.op_listing.specs.Line.{counter_in, site_in, identifier_in, identifier_from}
use Rattle.op_listing.proofs.Numerals.{AllDigits-from, all_at, number_in-none, number_in-some, counter_wrong, up_to-some, up_to-above}

no_site : (counter : Option ℕ) → identifier_from counter None ≡ None
no_site None = refl
no_site (Some counter) = refl

-- without a counter there is no identifier
no_counter : (word : List ℕ) → counter_in (before_first (λ b. b == 46) word) ≡ None → identifier_in word ≡ None
no_counter word none = ap (λ (counter : Option ℕ). identifier_from counter (site_in (after_first (λ b. b == 46) word))) none

module _ (word : List ℕ) (count : ℕ) (within : count ≤ length word) (all : AllDigits 10 (take count word)) where
  -- none of the digits is a point
  fails_at : (k : ℕ) → k < count → (get_or word k 0 == 46) ≡ false
  fails_at k lt =
      let small = all_at 10 (take count word) k all (let long = length-take-le count word within in omega (arith, long, lt)) in
      let digit = digit_from_value (get_or (take count word) k 0) small in
      let same = get_or-take count word k 0 lt in
      ne_eqb (get_or word k 0) 46 (λ e. omega (arith, digit.0, same, e))

  pub point_at : get_or word count 0 ≡ 46 → position_or_len (λ b. b == 46) word ≡ count
  point_at e = position_or_len_is (λ b. b == 46) word count 0 within fails_at (λ lt. eq-eqb (get_or word count 0) 46 e)

  pub only_digits : count ≡ length word → identifier_in word ≡ None
  only_digits e =
      let place = position_or_len_is (λ b. b == 46) word count 0 within fails_at (λ lt. absurd (omega (arith, lt, e))) in
      let none = drop_all (position_or_len (λ b. b == 46) word + 1) word (omega (arith, place, e)) in
      ap (λ (w : List ℕ). identifier_from (counter_in (before_first (λ b. b == 46) word)) (site_in w)) none ∙ no_site (counter_in (before_first (λ b. b == 46) word))

  -- the first point is behind the byte after the digits, if that byte is none
  point_behind : count < length word → ¬ (get_or word count 0 ≡ 46) → count < position_or_len (λ b. b == 46) word
  point_behind inside other = elim (cases_lt count (position_or_len (λ b. b == 46) word)) [
    | inl lt ↦ lt
    | inr le ↦
        let passes = passes_at_first (λ b. b == 46) word 0 (omega (arith, le, inside)) in
        elim (cases_lt (position_or_len (λ b. b == 46) word) count) [
          | inl before ↦ absurd (true≢false (sym passes ∙ fails_at (position_or_len (λ b. b == 46) word) before))
          | inr not_before ↦
              let same : position_or_len (λ b. b == 46) word ≡ count = omega (arith, le, not_before) in
              absurd (other (ap (λ (n : ℕ). get_or word n 0) (sym same) ∙ eqb-true (get_or word (position_or_len (λ b. b == 46) word) 0) 46 passes))
        ]
  ]

  pub other_byte : count < length word → (count < 11 → 10 ≤ digit_value (get_or word count 0)) → ¬ (get_or word count 0 ≡ 46) → identifier_in word ≡ None
  other_byte inside stop other = no_counter word (elim (cases_lt count 11) [ inl few ↦ wrong_byte few | inr many ↦ wrong_length many ]) where
    place : ℕ
    place = position_or_len (λ b. b == 46) word

    long : length (take place word) ≡ place
    long = length-take-le place word (prefix_len-le-length (λ b. not (b == 46)) word)

    wrong_length : 11 ≤ count → counter_in (take place word) ≡ None
    wrong_length many = let behind = point_behind inside other in counter_wrong (take place word) (inr (omega (arith, many, behind, long)))

    wrong_byte : count < 11 → counter_in (take place word) ≡ None
    wrong_byte few = ap (up_to 4_294_967_295) (number_in-none 10 1 10 (take place word) (by_digits (is_digits 10 (take place word)) refl)) where
      by_digits : (t : Bool) → is_digits 10 (take place word) ≡ t → is_digits 10 (take place word) ≡ false
      by_digits false e = e
      by_digits true e =
          let behind = point_behind inside other in
          let small = all_at 10 (take place word) count (AllDigits-from 10 (take place word) e) (omega (arith, behind, long)) in
          let same = get_or-take place word count 0 behind in
          let large = stop few in
          absurd (omega (arith, (subst (λ (b : ℕ). digit_value b < 10) same small), large))

  module _ (point : get_or word count 0 ≡ 46) where
    front : take (position_or_len (λ b. b == 46) word) word ≡ take count word
    front = ap (λ (n : ℕ). take n word) (point_at point)

    pub wrong_count : (count < 1) ⊎ (10 < count) → identifier_in word ≡ None
    wrong_count wrong = no_counter word (ap counter_in front ∙ counter_wrong (take count word) (subst (λ (n : ℕ). (n < 1) ⊎ (10 < n)) (sym (length-take-le count word within)) wrong))

    found : 1 ≤ count → count ≤ 10 → number_in 10 1 10 (take count word) ≡ Some (digits_value 10 (take count word))
    found some few = let long = length-take-le count word within in number_in-some 10 1 10 (take count word) all (omega (arith, some, long)) (omega (arith, few, long))

    pub too_large_counter : 1 ≤ count → count ≤ 10 → 4_294_967_295 < digits_value 10 (take count word) → identifier_in word ≡ None
    too_large_counter some few large = no_counter word (ap counter_in front ∙ ap (up_to 4_294_967_295) (found some few) ∙ up_to-above 4_294_967_295 (digits_value 10 (take count word)) large)

    pub counter_found : (value : ℕ) → 1 ≤ count → count ≤ 10 → value ≡ digits_value 10 (take count word) → value ≤ 4_294_967_295 → counter_in (before_first (λ b. b == 46) word) ≡ Some value
    counter_found value some few is small =
        ap counter_in front ∙ ap (up_to 4_294_967_295) (found some few) ∙ up_to-some 4_294_967_295 (digits_value 10 (take count word)) (omega (arith, is, small)) ∙ ap Some (sym is)

-- ---- a number that fits 32 bits or not

pub not_fitted : {E : Type 0} (r : Result ℕ E) (P : Type 0) (v : ℕ) → None ≡ result_ok r → OkIff r P v → ¬ P
not_fitted (Ok x) P v none h = absurd cc
not_fitted (Err e) P v none h = h

pub fitted : {E : Type 0} (r : Result ℕ E) (P : Type 0) (v x : ℕ) → Some x ≡ result_ok r → OkIff r P v → P × (x ≡ v)
fitted (Ok y) P v x some h = let same : x ≡ y = cc in (h.0, same ∙ h.1)
fitted (Err e) P v x some h = absurd cc

pub none_matches : {X : Type 0} (r : Option X) (none : Type 0) (some : X → Type 0) → r ≡ None → none → MatchOption r none some
none_matches {X = X} r none some is holds = subst (λ (o : Option X). MatchOption o none some) (sym is) holds
