-- One pair after the other.
use Rattle.std.proofs.Common.{ℕ, zero, suc, ◌≡◌, ◌+◌, ◌-◌, ◌<◌, ◌≤◌, refl, ap, ap₂, sym, subst, ◌∙◌, List, [], ◌∷◌, ◌++◌, length, get_or, take, drop, Option, Some, None, true, false, arith}
use Rattle.std.specs.Prelude.{fold, is_some, slice_range}
use Rattle.std.specs.List.{cons_option}
use Rattle.std.specs.Option.{option_or}
use Rattle.std.proofs.lemmas.Bool.{cond_both, false≢true}
use Rattle.std.proofs.lemmas.List.{append-nil, take-append-le, take-take, take_more, take_all, drop_more, drop_all, length-take-le, length-append, length-drop}
use Rattle.std.proofs.lemmas.List.Elements.{filter_map-append}
use Rattle.std.proofs.lemmas.List.Sums.{fold-append}
use Rattle.bg_types.specs.declared.class.Bidi.{Bidi}
use Rattle.bracket_pairs.specs.declared.direction.Direction.{Direction}
use Rattle.bracket_pairs.specs.declared.search.Opened.{Opened}
use Rattle.bracket_pairs.specs.Pairs.{pair_of}
use Rattle.bracket_pairs.specs.Found.{pair_from, pair_opened, pairs_told, AreInOrder}
use Rattle.bracket_pairs.specs.N0.{direction_of, last_strong, is_nonspacing, marks_set, bracket_set, type_of, pair_direction, pair_set, pair_resolved}

-- what the first k opening brackets have made of the types, and the direction of the last strong one before place `from`
pub record IsResolved (embedding : Direction) (sos : Option Direction) (openings : List Opened) (before_w1 first : List Bidi) (k from : ℕ)
    (before : Option Direction) (types : List Bidi) : Type 0 where
  pub resolved : types ≡ fold (pair_resolved embedding sos before_w1) first (pairs_told (take k openings))
  pub strong : before ≡ last_strong sos (take from types)

-- a bracket changes nothing before it
pub bracket-before : (t : Bidi) (before_w1 types : List Bidi) (i place : ℕ) → i ≤ place → place < length types → take i (bracket_set t before_w1 types place) ≡ take i types
unfolding bracket_set
bracket-before t before_w1 types i place le h =
    let len : i ≤ length (take place types) = rw (length-take-le place types (omega arith)) le in
    take-append-le i (take place types) (t ∷ marks_set t (drop (suc place) before_w1) (drop (suc place) types)) len ∙ take-take i place types le

length-marks : (t : Bidi) (before_w1 types : List Bidi) → length (marks_set t before_w1 types) ≡ length types
length-marks t before_w1 [] = refl
length-marks t [] (u ∷ types) = refl
length-marks t (b ∷ before_w1) (u ∷ types) =
    let rest : suc (length (marks_set t before_w1 types)) ≡ suc (length types) = ap suc (length-marks t before_w1 types) in
    cond_both (is_nonspacing b) (t ∷ marks_set t before_w1 types) (u ∷ types) (λ l. length l ≡ suc (length types)) (λ e. rest) (λ e. refl)

pub length-bracket : (t : Bidi) (before_w1 types : List Bidi) (place : ℕ) → place < length types → length (bracket_set t before_w1 types place) ≡ length types
unfolding bracket_set
length-bracket t before_w1 types place h =
    length-append (take place types) (t ∷ marks_set t (drop (suc place) before_w1) (drop (suc place) types))
    ∙ rw (length-take-le place types (omega arith), length-marks t (drop (suc place) before_w1) (drop (suc place) types), length-drop (suc place) types) (omega arith)

-- a pair changes nothing before it
pair-before : (o : Option Direction) (before_w1 types : List Bidi) (i j : ℕ) → i < j → j < length types → take i (pair_set o before_w1 types (pair_of i j)) ≡ take i types
pair-before None before_w1 types i j lt h = refl
pair-before (Some d) before_w1 types i j lt h =
    let len : length (bracket_set (type_of d) before_w1 types i) ≡ length types = length-bracket (type_of d) before_w1 types i (omega arith) in
    bracket-before (type_of d) before_w1 (bracket_set (type_of d) before_w1 types i) i j (omega arith) (omega arith)
    ∙ bracket-before (type_of d) before_w1 types i i (omega arith) (omega arith)

told-none : (openings : List Opened) (k : ℕ) (d : Opened) → k < length openings → (get_or openings k d).closing ≡ None →
    pairs_told (take (k + 1) openings) ≡ pairs_told (take k openings)
told-none openings k d inside e =
    ap pairs_told (take_more openings k d inside) ∙ filter_map-append pair_opened (take k openings) (get_or openings k d ∷ [])
    ∙ ap (λ (o : Option ℕ). pairs_told (take k openings) ++ cons_option (pair_from (get_or openings k d).place o) []) e ∙ append-nil (pairs_told (take k openings))

told-some : (openings : List Opened) (k j : ℕ) (d : Opened) → k < length openings → (get_or openings k d).closing ≡ Some j →
    pairs_told (take (k + 1) openings) ≡ pairs_told (take k openings) ++ pair_of (get_or openings k d).place j ∷ []
told-some openings k j d inside e =
    ap pairs_told (take_more openings k d inside) ∙ filter_map-append pair_opened (take k openings) (get_or openings k d ∷ [])
    ∙ ap (λ (o : Option ℕ). pairs_told (take k openings) ++ cons_option (pair_from (get_or openings k d).place o) []) e

last-append : (sos : Option Direction) (types more : List Bidi) → last_strong sos (types ++ more) ≡ last_strong (last_strong sos types) more
last-append sos [] more = refl
last-append sos (u ∷ types) more = last-append (option_or (direction_of u) sos) types more

-- the last strong type, one type further
pub last-more : (sos : Option Direction) (types : List Bidi) (i : ℕ) (d : Bidi) → i < length types →
    last_strong sos (take (i + 1) types) ≡ option_or (direction_of (get_or types i d)) (last_strong sos (take i types))
last-more sos types i d h = ap (last_strong sos) (take_more types i d h) ∙ last-append sos (take i types) (get_or types i d ∷ [])

-- the opening bracket at a place of the list, and those after it
pub order-at : (from n : ℕ) (openings : List Opened) (k : ℕ) (d : Opened) → k < length openings → AreInOrder from n (drop k openings) →
    AreInOrder from n (get_or openings k d ∷ drop (k + 1) openings)
order-at from n openings k d inside a = subst (AreInOrder from n) (drop_more openings k d inside) a

pub order-weaker : (from to n : ℕ) (openings : List Opened) → from ≤ to → AreInOrder to n openings → AreInOrder from n openings
order-weaker from to n [] le a = tt
order-weaker from to n (o ∷ openings) le a = (let later = a.0 in omega arith, a.1, a.2)

-- a direction that there is, or not, before another
pub strong-some : (d before : Option Direction) → is_some d ≡ true → option_or d before ≡ d
strong-some (Some d) before h = refl
strong-some None before h = absurd (false≢true h)

pub strong-none : (d before : Option Direction) → is_some d ≡ false → option_or d before ≡ before
strong-none (Some d) before h = absurd (false≢true (sym h))
strong-none None before h = refl

take-between : (types : List Bidi) (i j : ℕ) → i ≤ j → take i types ++ slice_range types i j ≡ take j types
take-between [] i j le =
    ap₂ (λ xs ys. xs ++ ys) (take_all i [] (omega arith)) (ap (take (j - i)) (drop_all i [] (omega arith)) ∙ take_all (j - i) [] (omega arith))
    ∙ sym (take_all j [] (omega arith))
take-between (t ∷ types) zero zero le = refl
take-between (t ∷ types) zero (suc j) le = let all : suc j - 0 ≡ suc j = omega arith in ap (λ k. take k (t ∷ types)) all
take-between (t ∷ types) (suc i) zero le = absurd (omega arith)
take-between (t ∷ types) (suc i) (suc j) le =
    let fewer : suc j - suc i ≡ j - i = omega arith in
    ap (λ ts. t ∷ ts) (ap (λ k. take i types ++ take k (drop i types)) fewer ∙ take-between types i j (omega arith))

module _ (embedding : Direction) (sos : Option Direction) (openings : List Opened) (before_w1 first : List Bidi) (k from : ℕ)
    (before : Option Direction) (types : List Bidi) (s : IsResolved embedding sos openings before_w1 first k from before types)
    (d : Opened) (inside : k < length openings) where
  -- at an opening bracket that makes no pair
  pub resolved-same : (get_or openings k d).closing ≡ None → IsResolved embedding sos openings before_w1 first (k + 1) from before types
  resolved-same none = record {
    resolved = s.resolved ∙ ap (fold (pair_resolved embedding sos before_w1) first) (sym (told-none openings k d inside none));
    strong = s.strong;
  }

  -- at one that makes a pair
  pub resolved-more : (j : ℕ) (after : List Bidi) (strong : Option Direction) → (get_or openings k d).closing ≡ Some j →
      from ≤ (get_or openings k d).place → (get_or openings k d).place < j → j < length types →
      strong ≡ last_strong before (slice_range types from (get_or openings k d).place) →
      after ≡ pair_set (pair_direction embedding strong (slice_range types ((get_or openings k d).place + 1) j)) before_w1 types (pair_of (get_or openings k d).place j) →
      IsResolved embedding sos openings before_w1 first (k + 1) (get_or openings k d).place strong after
  resolved-more j after strong some le lt h last e =
      let i = (get_or openings k d).place in
      let before_pair : strong ≡ last_strong sos (take (get_or openings k d).place types) =
      last ∙ ap (λ (b : Option Direction). last_strong b (slice_range types from i)) s.strong ∙ sym (last-append sos (take from types) (slice_range types from i))
      ∙ ap (last_strong sos) (take-between types from i le) in
      let kept : take (get_or openings k d).place after ≡ take (get_or openings k d).place types =
      ap (take i) e ∙ pair-before (pair_direction embedding strong (slice_range types (i + 1) j)) before_w1 types i j lt h in
      record {
        resolved = e ∙ ap (λ (b : Option Direction). pair_set (pair_direction embedding b (slice_range types (i + 1) j)) before_w1 types (pair_of i j)) before_pair
            ∙ ap (λ (ts : List Bidi). pair_resolved embedding sos before_w1 ts (pair_of i j)) s.resolved
            ∙ sym (ap (fold (pair_resolved embedding sos before_w1) first) (told-some openings k j d inside some)
            ∙ fold-append (pair_resolved embedding sos before_w1) first (pairs_told (take k openings)) (pair_of i j ∷ []));
        strong = before_pair ∙ ap (last_strong sos) (sym kept);
      }

pub resolved-all : (embedding : Direction) (sos : Option Direction) (openings : List Opened) (before_w1 first : List Bidi) (k from : ℕ)
    (before : Option Direction) (types : List Bidi) → IsResolved embedding sos openings before_w1 first k from before types → length openings ≤ k →
    types ≡ fold (pair_resolved embedding sos before_w1) first (pairs_told openings)
resolved-all embedding sos openings before_w1 first k from before types s past =
    s.resolved ∙ ap (λ (os : List Opened). fold (pair_resolved embedding sos before_w1) first (pairs_told os)) (take_all k openings past)
