-- W1 to W7 over letters of one strong type, and marks between and behind them.
use Rattle.std.proofs.Common.{arith, ℕ, zero, suc, ◌+◌, ◌-◌, ◌<◌, ◌≤◌, ◌≡◌, refl, ap, sym, subst, ◌∙◌, List, [], ◌∷◌, ◌++◌, length, get_or, take, drop, replicate, length-drop, Bool, true, false, rules}
use Rattle.std.specs.Prelude.{◌&&◌, ◌||◌, if◌then◌else◌}
use Rattle.std.proofs.lemmas.Bool.{false≢true}
use Rattle.std.proofs.lemmas.List.{append_assoc, drop-drop, drop_more, get_or-drop}
use denote.Enum.Bare.{same_true}
use Rattle.bg_types.specs.contracts.class.Bidi.{the_type}
use Rattle.bg_types.specs.declared.class.Bidi.{Bidi}
use Rattle.bg_types.specs.declared.class.Bidi.TheVariants.{L, En, Et, Nsm}
use Rattle.bidi_weak_neutral.specs.Classes.{is, is_strong}
use Rattle.bidi_weak_neutral.specs.Pass.{lettered, terminated, goes_on, is_past_terminators}
use Rattle.bidi_weak_neutral.proofs.WeakPass.{weak_from, strong-step, mark-step}

by-either : (P : Type 0) (a b : Bool) → (a || b) ≡ true → (a ≡ true → P) → (b ≡ true → P) → P
by-either P true b h f g = f refl
by-either P false b h f g = g h

-- one letter or mark more
letter-step : (x z y : Bidi) (ys : List Bidi) → is_strong x ≡ true → z ≡ lettered x x → goes_on x y ≡ true
    → weak_from x x z z (y ∷ ys) ≡ z ∷ weak_from x x z z ys
letter-step x z y ys strong made on =
    subst (λ z. weak_from x x z z (y ∷ ys) ≡ z ∷ weak_from x x z z ys) (sym made)
    (by-either (weak_from x x (lettered x x) (lettered x x) (y ∷ ys) ≡ lettered x x ∷ weak_from x x (lettered x x) (lettered x x) ys)
    (is y x) (is y Nsm) on
    (λ same.
    let e : y ≡ x = same_true the_type (search rules) _ _ same in
    ap (λ y. weak_from x x (lettered x x) (lettered x x) (y ∷ ys)) e ∙ strong-step x x (lettered x x) (lettered x x) x ys strong)
    (λ mark.
    let e : y ≡ Nsm = same_true the_type (search rules) _ _ mark in
    ap (λ y. weak_from x x (lettered x x) (lettered x x) (y ∷ ys)) e ∙ mark-step x ys strong))

letters-run : (x z : Bidi) (xs : List Bidi) (n : ℕ) → is_strong x ≡ true → z ≡ lettered x x → n ≤ length xs
    → ((k : ℕ) → k < n → goes_on x (get_or xs k L) ≡ true)
    → weak_from x x z z xs ≡ replicate n z ++ weak_from x x z z (drop n xs)
letters-run x z xs zero strong made le on = refl
letters-run x z [] (suc n) strong made le on = absurd (omega arith)
letters-run x z (y ∷ ys) (suc n) strong made le on =
    letter-step x z y ys strong made (on 0 (omega arith))
    ∙ ap (λ t. z ∷ t) (letters-run x z ys n strong made (omega arith) (λ k lt. on (suc k) (omega arith)))

-- a strong type and all that goes on with it, in another list
module _ (base strong last beside x z : Bidi) (types new whole before : List Bidi) (i end : ℕ) (order : i < end) (within : end ≤ length before)
    (at : get_or before i L ≡ x) (letter : is_strong x ≡ true) (made : z ≡ lettered x x)
    (on : (k : ℕ) → i < k → k < end → goes_on x (get_or before k L) ≡ true) where
  behind : drop (end - (i + 1)) (drop (i + 1) before) ≡ drop end before
  behind =
      let there : (i + 1) + (end - (i + 1)) ≡ end = omega arith in
      drop-drop (end - (i + 1)) (i + 1) before ∙ ap (λ n. drop n before) there

  going : (k : ℕ) → k < end - (i + 1) → goes_on x (get_or (drop (i + 1) before) k L) ≡ true
  going k lt = ap (goes_on x) (get_or-drop (i + 1) before k L) ∙ on ((i + 1) + k) (omega arith) (omega arith)

  long : end - (i + 1) ≤ length (drop (i + 1) before)
  long = omega (arith, length-drop (i + 1) before)

  passed : weak_from base strong last beside (drop i before) ≡ replicate (end - i) z ++ weak_from x x z z (drop end before)
  passed =
      let lt : i < length before = omega arith in
      let more : suc (end - (i + 1)) ≡ end - i = omega arith in
      ap (weak_from base strong last beside) (drop_more before i L lt ∙ ap (λ y. y ∷ drop (i + 1) before) at)
      ∙ strong-step base strong last beside x (drop (i + 1) before) letter
      ∙ ap (λ y. y ∷ weak_from x x y y (drop (i + 1) before)) (sym made)
      ∙ ap (λ t. z ∷ t) (letters-run x z (drop (i + 1) before) (end - (i + 1)) letter made long going
      ∙ ap (λ t. replicate (end - (i + 1)) z ++ weak_from x x z z t) behind)
      ∙ ap (λ n. replicate n z ++ weak_from x x z z (drop end before)) more

  pub letters-step : take end new ≡ take i types ++ replicate (end - i) z
      → take i types ++ weak_from base strong last beside (drop i before) ≡ whole
      → take end new ++ weak_from x x z z (drop end before) ≡ whole
  letters-step put so_far =
      ap (λ t. t ++ weak_from x x z z (drop end before)) put
      ∙ append_assoc (take i types) (replicate (end - i) z) (weak_from x x z z (drop end before))
      ∙ ap (λ t. take i types ++ t) (sym passed)
      ∙ so_far

-- a strong type ends a run of terminators and marks
pub strong-past : (x : Bidi) → is_strong x ≡ true → is_past_terminators x ≡ true
unfolding is_strong
strong-past Et h = absurd (false≢true h)
strong-past Nsm h = absurd (false≢true h)
strong-past x h = refl

-- W5 changes terminators alone
pub terminated-other : (beside j a : Bidi) → is j Et ≡ false → terminated beside j a ≡ j
terminated-other beside j a e = ap (λ b. if b && (is beside En || is a En) then En else j) e
