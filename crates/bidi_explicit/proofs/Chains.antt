-- Kept places, and chains of links.
use Rattle.std.proofs.Common.{ℕ, zero, suc, ◌≡◌, ◌≤◌, ◌<◌, ◌+◌, ◌-◌, refl, ap, ap₂, sym, subst, ◌∙◌, List, [], ◌∷◌, ◌++◌, length, get_or, drop, drop-cons, Option, Some, None, Bool, true, false, append_assoc, append-nil, add-zero, arith}
use Rattle.std.specs.Prelude.{is_some}
use Rattle.std.specs.List.{range_with_len}
use Rattle.std.proofs.lemmas.Option.{slice_get-get_or}
use Rattle.bidi_explicit.specs.declared.kept.Kept.{Kept}
use Rattle.bidi_explicit.specs.Sequences.{kept_at, is_kept, kept_from, kept_after, same_level, has_level_of, over_isolate, next_by, chain, last_or}
use Rattle.bidi_explicit.specs.LevelRuns.{places_between}

pub kept_at-is : (places : List (Option Kept)) (i : ℕ) (d : Option Kept) → i < length places → kept_at places i ≡ get_or places i d
kept_at-is places i d inside = rw (slice_get-get_or places i d inside, kept_at) refl

pub is_kept-is : (places : List (Option Kept)) (i : ℕ) (d : Option Kept) (b : Bool) → i < length places → is_some (get_or places i d) ≡ b → is_kept places i ≡ b
is_kept-is places i d b inside e = ap is_some (kept_at-is places i d inside) ∙ e

pub is_kept-within : (places : List (Option Kept)) (i : ℕ) → is_kept places i ≡ true → i < length places
is_kept-within [] i h = cc
is_kept-within (p ∷ ps) zero h = omega arith
is_kept-within (p ∷ ps) (suc i) h = let e = is_kept-within ps i h in omega arith

-- two places of the list at one level
pub has_level_of-is : (places : List (Option Kept)) (i j : ℕ) (d : Option Kept) → i < length places → j < length places →
    has_level_of places i (Some j) ≡ same_level (get_or places i d) (get_or places j d)
has_level_of-is places i j d inside other = ap₂ same_level (kept_at-is places i d inside) (kept_at-is places j d other)

from_first : (i : ℕ) (o : Option Kept) (rest : List (Option Kept)) → is_some o ≡ true → kept_from i (o ∷ rest) ≡ Some i
from_first i (Some k) rest h = refl
from_first i None rest h = cc

-- a search from place i finds it
pub kept_from-here : (places : List (Option Kept)) (i : ℕ) (d : Option Kept) → i < length places → is_some (get_or places i d) ≡ true →
    kept_from i (drop i places) ≡ Some i
kept_from-here places i d inside h = ap (kept_from i) (drop-cons places i d inside) ∙ from_first i (get_or places i d) (drop (suc i) places) h

-- each link leads on, to a place before n
abbrev pub IsForward : (ℕ → Option ℕ) → ℕ → Type 0
IsForward f n = (i j : ℕ) → f i ≡ Some j → (i < j) × (j < n)

-- what is left of a chain after a place
abbrev pub chain_behind : (ℕ → Option ℕ) → ℕ → ℕ → List ℕ
chain_behind f n i = elim (f i) [ Some j ↦ chain f n j | None ↦ [] ]

abbrev pub goes_on : (ℕ → Option ℕ) → ℕ → Option ℕ → List ℕ
goes_on f n o = elim o [ Some j ↦ chain f n j | None ↦ [] ]

same_rest : (f : ℕ → Option ℕ) (m n : ℕ) (o : Option ℕ) → ((j : ℕ) → o ≡ Some j → chain f m j ≡ chain f n j) → goes_on f m o ≡ goes_on f n o
same_rest f m n None h = refl
same_rest f m n (Some j) h = h j refl

-- beyond the chain's length, a greater bound changes nothing
chain-enough : (f : ℕ → Option ℕ) (n : ℕ) → IsForward f n → (a b i : ℕ) → i < n → n ≤ a + i → n ≤ b + i → chain f a i ≡ chain f b i
chain-enough f n forward zero b i inside enough more = absurd (omega arith)
chain-enough f n forward (suc a) zero i inside enough more = absurd (omega arith)
chain-enough f n forward (suc a) (suc b) i inside enough more =
    ap (λ xs. i ∷ xs) (same_rest f a b (f i)
    (λ j e.
    let lt : i < j = (forward i j e).0 in
    let within : j < n = (forward i j e).1 in
    chain-enough f n forward a b j within (omega arith) (omega arith)))

chain-from : (f : ℕ → Option ℕ) (n : ℕ) → IsForward f n → (m i : ℕ) → m ≡ n → i < n → chain f m i ≡ i ∷ chain_behind f n i
chain-from f n forward zero i e inside = absurd (omega arith)
chain-from f n forward (suc m) i e inside =
    ap (λ xs. i ∷ xs) (same_rest f m n (f i)
    (λ j h.
    let lt : i < j = (forward i j h).0 in
    let within : j < n = (forward i j h).1 in
    chain-enough f n forward m n j within (omega arith) (omega arith)))

pub chain-step : (f : ℕ → Option ℕ) (n : ℕ) → IsForward f n → (i : ℕ) → i < n → chain f n i ≡ i ∷ chain_behind f n i
chain-step f n forward i inside = chain-from f n forward n i refl inside

chain_behind-is : (f : ℕ → Option ℕ) (n i : ℕ) (o : Option ℕ) → f i ≡ o → chain_behind f n i ≡ goes_on f n o
chain_behind-is f n i o e = ap (goes_on f n) e

-- the walk has come to `last`, with these places after the old ones
pub record IsWalkedTo (f : ℕ → Option ℕ) (n first last : ℕ) (old order : List ℕ) : Type 0 where
  pub so_far : order ++ chain_behind f n last ≡ old ++ chain f n first
  pub end : last_or last (chain_behind f n last) ≡ last_or first (chain f n first)
  pub inside : last < n

pub IsWalkedTo-start : (f : ℕ → Option ℕ) (n : ℕ) → IsForward f n → (first : ℕ) (old : List ℕ) → first < n →
    IsWalkedTo f n first first old (old ++ first ∷ [])
IsWalkedTo-start f n forward first old inside =
    let e = chain-step f n forward first inside in
    record {
      so_far = append_assoc old (first ∷ []) (chain_behind f n first) ∙ ap (λ xs. old ++ xs) (sym e);
      end = ap (last_or first) (sym e);
      inside = inside;
    }

pub IsWalkedTo-on : (f : ℕ → Option ℕ) (n : ℕ) → IsForward f n → (first last : ℕ) (old order : List ℕ) (j : ℕ) →
    IsWalkedTo f n first last old order → f last ≡ Some j → IsWalkedTo f n first j old (order ++ j ∷ [])
IsWalkedTo-on f n forward first last old order j w e =
    let within = (forward last j e).1 in
    let here : chain_behind f n last ≡ j ∷ chain_behind f n j = chain_behind-is f n last (Some j) e ∙ chain-step f n forward j within in
    record {
      so_far = append_assoc order (j ∷ []) (chain_behind f n j) ∙ ap (λ xs. order ++ xs) (sym here) ∙ w.so_far;
      end = ap (last_or last) (sym here) ∙ w.end;
      inside = within;
    }

pub IsWalkedTo-end : (f : ℕ → Option ℕ) (n first last : ℕ) (old order : List ℕ) → IsWalkedTo f n first last old order →
    f last ≡ None → (order ≡ old ++ chain f n first) × (last ≡ last_or first (chain f n first))
IsWalkedTo-end f n first last old order w e =
    let none : chain_behind f n last ≡ [] = chain_behind-is f n last None e in
    (sym (append-nil order) ∙ ap (λ xs. order ++ xs) (sym none) ∙ w.so_far, ap (last_or last) (sym none) ∙ w.end)

-- the numbers from a on, with one more
pub range-more : (a n : ℕ) → range_with_len a (suc n) ≡ range_with_len a n ++ (a + n) ∷ []
range-more a zero = ap (λ k. k ∷ []) (sym (add-zero a))
range-more a (suc n) =
    let e : (a + 1) + n ≡ a + suc n = omega arith in
    ap (λ xs. a ∷ xs) (range-more (a + 1) n ∙ ap (λ k. range_with_len (a + 1) n ++ k ∷ []) e)

-- the walk goes along places that follow each other
IsWalkedTo-along : (f : ℕ → Option ℕ) (n : ℕ) → IsForward f n → (first start : ℕ) (old order : List ℕ) (m : ℕ) →
    IsWalkedTo f n first start old (order ++ start ∷ []) → ((i : ℕ) → start ≤ i → i < start + m → f i ≡ Some (suc i)) →
    IsWalkedTo f n first (start + m) old (order ++ range_with_len start (suc m))
IsWalkedTo-along f n forward first start old order zero w links =
    subst (λ k. IsWalkedTo f n first k old (order ++ start ∷ [])) (sym (add-zero start)) w
IsWalkedTo-along f n forward first start old order (suc m) w links =
    let so_far = IsWalkedTo-along f n forward first start old order m w (λ i from to. links i from (omega arith)) in
    let there : suc (start + m) ≡ start + suc m = omega arith in
    subst (λ k. IsWalkedTo f n first k old (order ++ range_with_len start (suc (suc m)))) there
    (subst (λ xs. IsWalkedTo f n first (suc (start + m)) old xs)
    (append_assoc order (range_with_len start (suc m)) (suc (start + m) ∷ [])
    ∙ ap (λ xs. order ++ xs) (ap (λ k. range_with_len start (suc m) ++ k ∷ []) there ∙ sym (range-more start (suc m))))
    (IsWalkedTo-on f n forward first (start + m) old (order ++ range_with_len start (suc m)) (suc (start + m)) so_far (links (start + m) (omega arith) (omega arith))))

pub IsWalkedTo-run : (f : ℕ → Option ℕ) (n : ℕ) → IsForward f n → (first start last : ℕ) (old order : List ℕ) → start ≤ last →
    IsWalkedTo f n first start old (order ++ start ∷ []) → ((i : ℕ) → start ≤ i → i < last → f i ≡ Some (suc i)) →
    IsWalkedTo f n first last old (order ++ places_between start (last + 1))
IsWalkedTo-run f n forward first start last old order le w links =
    let to : start + (last - start) ≡ last = omega arith in
    let count : suc (last - start) ≡ (last + 1) - start = omega arith in
    subst (λ k. IsWalkedTo f n first k old (order ++ places_between start (last + 1))) to
    (subst (λ k. IsWalkedTo f n first (start + (last - start)) old (order ++ range_with_len start k)) count
    (IsWalkedTo-along f n forward first start old order (last - start) w (λ i from before. links i from (omega arith))))

-- what comes after a place in its sequence, case by case
module _ (places : List (Option Kept)) (pdi : Option ℕ) (i : ℕ) where
  pub next-out : is_kept places i ≡ false → next_by places pdi i ≡ None
  next-out out = rw (out, next_by) refl

  module _ (kept : is_kept places i ≡ true) where
    pub next-after : (j : ℕ) → kept_after places i ≡ Some j → has_level_of places i (Some j) ≡ true → next_by places pdi i ≡ Some j
    next-after j after same = rw (kept, after, same, next_by) refl

    pub next-over : has_level_of places i (kept_after places i) ≡ false → next_by places pdi i ≡ over_isolate places pdi
    next-over apart = rw (kept, apart, next_by) refl
