-- The places that sequences have taken, and what begins no sequence since it follows one of them.
use Rattle.std.proofs.Common.{ℕ, zero, suc, ◌≡◌, ◌≤◌, ◌<◌, ◌+◌, ◌==◌, ◌||◌, inl, inr, refl, ap, ap₂, subst, sym, ◌∙◌, List, [], ◌∷◌, ◌++◌, length, get_or, Option, Some, None, Bool, true, false, zero-add, arith}
use Rattle.std.specs.Prelude.{is_some, not, ◌&&◌}
use Rattle.std.specs.List.{list_any}
use Rattle.std.proofs.Math.Bool.{or-true}
use Rattle.std.proofs.lemmas.Bool.{cases_Bool, eqb-true, false≢true}
use Rattle.std.proofs.lemmas.Bool.Decides.{eqb_tells}
use Rattle.std.proofs.lemmas.List.FromFn.{length-range_with_len, get_or-range_with_len}
use Rattle.std.proofs.lemmas.List.Folds.{list_any-append, list_any_at, list_any_none}
use Rattle.bidi_explicit.specs.declared.kept.Kept.{Kept}
use Rattle.bidi_explicit.specs.Sequences.{is_kept, is_place, below, chain, follows, begins}
use Rattle.bidi_explicit.proofs.Chains.{IsForward, goes_on, is_kept-is}
use Rattle.bidi_explicit.proofs.Runs.{has_place}

-- a link of one of these places leads here
abbrev pub is_led : (ℕ → Option ℕ) → List ℕ → ℕ → Bool
is_led f js i = list_any (λ j. is_place i (f j)) js

place-is : (i : ℕ) (o : Option ℕ) → is_place i o ≡ true → o ≡ Some i
place-is i (Some j) h = ap (λ k. Some k) (sym (eqb-true i j h))
place-is i None h = absurd (false≢true h)

has-led : (f : ℕ → Option ℕ) (js : List ℕ) (j i : ℕ) → has_place js j ≡ true → is_place i (f j) ≡ true → is_led f js i ≡ true
has-led f [] j i h e = h
has-led f (k ∷ js) j i h e =
    elim (eqb_tells j k) [
      | inl at ↦ ap (λ b. b || is_led f js i) (subst (λ x. is_place i (f x) ≡ true) at.1 e)
      | inr other ↦
          let rest : has_place js j ≡ true = sym (ap (λ b. b || has_place js j) other.0) ∙ h in
          ap (λ b. is_place i (f k) || b) (has-led f js j i rest e) ∙ or-true (is_place i (f k))
    ]

module _ (f : ℕ → Option ℕ) (n : ℕ) (forward : IsForward f n) where
  pub follows-at : (j i : ℕ) → is_place i (f j) ≡ true → follows f n i ≡ true
  follows-at j i leads =
      let to = forward j i (place-is i (f j) leads) in
      let before : j < i = to.0 in
      let within : i < n = to.1 in
      let inside : j < n = omega arith in
      list_any_at (λ k. is_place i (f k)) (below n) j 0 (omega (arith, length-range_with_len 0 n))
      (ap (λ k. is_place i (f k)) (get_or-range_with_len 0 n j 0 inside ∙ zero-add j) ∙ leads)

  led-follows : (js : List ℕ) (i : ℕ) → is_led f js i ≡ true → follows f n i ≡ true
  led-follows [] i h = absurd (false≢true h)
  led-follows (j ∷ js) i h =
      elim (cases_Bool (is_place i (f j))) [
        | inl leads ↦ follows-at j i leads
        | inr other ↦ led-follows js i (sym (ap (λ b. b || is_led f js i) other) ∙ h)
      ]

  -- where all places that lead here are among these, these tell whether it follows one
  follows-led : (order : List ℕ) (i : ℕ) → ((j : ℕ) → f j ≡ Some i → has_place order j ≡ true) → follows f n i ≡ is_led f order i
  follows-led order i all =
      elim (cases_Bool (is_led f order i)) [
        | inl led ↦ led-follows order i led ∙ sym led
        | inr none ↦ list_any_none (λ j. is_place i (f j)) (below n) (λ k d lt. nowhere _ none) ∙ sym none
      ]
    where
      nowhere : (j : ℕ) → is_led f order i ≡ false → is_place i (f j) ≡ false
      nowhere j none =
          elim (cases_Bool (is_place i (f j))) [
            | inl leads ↦ absurd (false≢true (sym none ∙ has-led f order j i (all j (place-is i (f j) leads)) leads))
            | inr other ↦ other
          ]

  chain-first : (m i j : ℕ) → 0 < m → (j == i) ≡ true → has_place (chain f m i) j ≡ true
  chain-first zero i j some e = absurd (omega arith)
  chain-first (suc m) i j some e = ap (λ b. b || has_place (goes_on f m (f i)) j) e

  rest-led : (m : ℕ) (o : Option ℕ) (j : ℕ) → ((k : ℕ) → o ≡ Some k → has_place (chain f m k) j ≡ (j == k || is_led f (chain f m k) j)) →
      has_place (goes_on f m o) j ≡ (is_place j o || is_led f (goes_on f m o) j)
  rest-led m (Some k) j h = h k refl
  rest-led m None j h = refl

  -- each place of a chain but the first is what a link of the chain leads to
  chain-led : (m i j : ℕ) → i < n → n ≤ m + i → (j ≡ i → ⊥) → has_place (chain f m i) j ≡ is_led f (chain f m i) j
  chain-led zero i j inside enough other = absurd (omega arith)
  chain-led (suc m) i j inside enough other =
      elim (eqb_tells j i) [
        | inl same ↦ absurd (other same.1)
        | inr apart ↦
            ap (λ b. b || has_place (goes_on f m (f i)) j) apart.0
            ∙ rest-led m (f i) j
            (λ k e.
            let to = forward i k e in
            let lt : i < k = to.0 in
            let within : k < n = to.1 in
            elim (eqb_tells j k) [
              | inl same ↦ chain-first m k j (omega arith) same.0 ∙ sym (ap (λ b. b || is_led f (chain f m k) j) same.0)
              | inr ne ↦ chain-led m k j within (omega arith) ne.1 ∙ sym (ap (λ b. b || is_led f (chain f m k) j) ne.0)
            ])
      ]

-- what is taken once the sequences that begin before place i are gathered
pub record IsTaken (f : ℕ → Option ℕ) (places : List (Option Kept)) (i : ℕ) (order : List ℕ) : Type 0 where
  pub all : (j : ℕ) → j < i → is_kept places j ≡ true → has_place order j ≡ true
  pub led : (j : ℕ) → i ≤ j → has_place order j ≡ is_led f order j

pub IsTaken-start : (f : ℕ → Option ℕ) (places : List (Option Kept)) → IsTaken f places 0 []
IsTaken-start f places = record { all = λ j before kept. absurd (omega arith); led = λ j from. refl }

begins-not : (a b : Bool) → (a && not b) ≡ false → a ≡ true → b ≡ true
begins-not true true e h = refl
begins-not true false e h = absurd (false≢true (sym e))
begins-not false b e h = absurd (false≢true h)

module _ (f : ℕ → Option ℕ) (places : List (Option Kept)) (forward : IsForward f (length places))
    (from_kept : (i j : ℕ) → f i ≡ Some j → is_kept places i ≡ true) (i : ℕ) (order : List ℕ) (t : IsTaken f places i order) where
  -- what is taken at a place says whether it follows one
  taken-follows : has_place order i ≡ follows f (length places) i
  taken-follows =
      t.led i (omega arith)
      ∙ sym (follows-led f (length places) forward order i (λ j e. let to = forward j i e in t.all j to.0 (from_kept j i e)))

  pub begins-is : (d : Option Kept) (b : Bool) → i < length places → b ≡ has_place order i → (is_some (get_or places i d) && not b) ≡ begins f places i
  begins-is d b inside is = ap₂ (λ x y. x && not y) (sym (is_kept-is places i d (is_some (get_or places i d)) inside refl)) (is ∙ taken-follows)

  pub IsTaken-on : begins f places i ≡ false → IsTaken f places (suc i) order
  IsTaken-on none = record {
    all = λ j before kept.
        elim (eqb_tells j i) [
          | inl here ↦ ap (has_place order) here.1 ∙ taken-follows ∙ begins-not (is_kept places i) _ none (ap (is_kept places) (sym here.1) ∙ kept)
          | inr other ↦ (let ne = other.1 in t.all j (omega arith) kept)
        ];
    led = λ j from. t.led j (omega arith);
  }

  pub IsTaken-more : (n : ℕ) → n ≡ length places → i < n → IsTaken f places (suc i) (order ++ chain f n i)
  IsTaken-more n e inside =
      let both : (j : ℕ) → has_place (order ++ chain f n i) j ≡ (has_place order j || has_place (chain f n i) j) =
      λ j. list_any-append (λ k. j == k) order (chain f n i) in
      record {
        all = λ j before kept.
            elim (eqb_tells j i) [
              | inl here ↦
                  both j ∙ ap (λ b. has_place order j || b) (chain-first f (length places) forward n i j (omega arith) here.0) ∙ or-true (has_place order j)
              | inr other ↦ both j ∙ (let ne = other.1 in ap (λ b. b || has_place (chain f n i) j) (t.all j (omega arith) kept))
            ];
        led = λ j from.
            both j
            ∙ ap₂ (λ x y. x || y) (t.led j (omega arith))
            (chain-led f (length places) forward n i j (omega arith) (omega arith) (λ same. absurd (omega arith)))
            ∙ sym (list_any-append (λ k. is_place j (f k)) order (chain f n i));
      }
