-- A paragraph without controls is one sequence of all its places.
use Rattle.std.proofs.Common.{ℕ, zero, suc, ◌≡◌, ◌≤◌, ◌<◌, ◌+◌, ◌==◌, ◌||◌, inl, inr, refl, ap, ap₂, sym, ◌∙◌, List, [], ◌∷◌, map, filter, length, drop, Option, Some, None, Bool, true, false, if◌then◌else◌, zero-add, arith}
use Rattle.std.specs.Prelude.{is_some, not, ◌&&◌, slice_get, IfSome}
use Rattle.std.specs.List.{All, list_any, range_with_len}
use Rattle.std.proofs.Math.Bool.{and-false, or-true}
use Rattle.std.proofs.lemmas.Bool.Decides.{eqb_tells}
use Rattle.std.proofs.lemmas.Bool.{false≢true, cases_lt, or_parts}
use Rattle.std.proofs.lemmas.List.{length-map}
use Rattle.std.proofs.lemmas.List.Elements.{All-nil, All-cons, All-head, All-tail}
use Rattle.bg_types.specs.declared.class.Bidi.{Bidi}
use Rattle.bg_types.specs.declared.class.Bidi.TheVariants.{L, R, Al, En, Es, Et, An, Cs, Nsm, B, S, Ws, On}
use Rattle.paragraphs.specs.Classes.{is_separator, is_removed, is_isolate_control}
use Rattle.bidi_explicit.specs.declared.kept.Kept.{Kept}
use Rattle.bidi_explicit.specs.Nesting.{nest, is_initiator, matched, matching}
use Rattle.bidi_explicit.specs.Levels.{descend, explicit_places, none_open, plain}
use Rattle.bidi_explicit.specs.Sequences.{RunSequence, kept_at, kept_from, kept_before, kept_after, same_level, has_level_of, over_isolate, next, chain, is_place, below, begins, direction_between, level_or, is_unmatched, last_or, sos_of, eos_of, sequence_from, sequences_of}
use Rattle.bidi_explicit.specs.Embedding.{Embedding, embedding_at}
use Rattle.bidi_explicit.specs.Uniform.{is_control, IsNoControl, kept_at_level, one_sequence}

-- X1 to X8
step-down : (p : ℕ) (c : Bidi) (cs : List Bidi) → IsNoControl c
    → descend p (plain p) none_open (nest (c ∷ cs)) ≡ kept_at_level p c ∷ descend p (plain p) none_open (nest cs)
unfolding is_separator is_removed is_isolate_control
step-down p L cs h = refl
step-down p R cs h = refl
step-down p Al cs h = refl
step-down p En cs h = refl
step-down p Es cs h = refl
step-down p Et cs h = refl
step-down p An cs h = refl
step-down p Cs cs h = refl
step-down p Nsm cs h = refl
step-down p B cs h = refl
step-down p S cs h = refl
step-down p Ws cs h = refl
step-down p On cs h = refl
step-down p c cs h = absurd (false≢true (sym h))

pub places-uniform : (p : ℕ) (cs : List Bidi) → All IsNoControl cs → explicit_places p cs ≡ map (kept_at_level p) cs
places-uniform p [] a = refl
places-uniform p (c ∷ cs) a =
    step-down p c cs (All-head IsNoControl c cs a) ∙ ap (λ ps. kept_at_level p c ∷ ps) (places-uniform p cs (All-tail IsNoControl c cs a))

pub no-controls : (cs : List Bidi) → list_any is_control cs ≡ false → All IsNoControl cs
no-controls [] h = All-nil IsNoControl
no-controls (c ∷ cs) h = let both = or_parts (is_control c) (list_any is_control cs) h in All-cons IsNoControl c cs both.0 (no-controls cs both.1)

-- an initiator is a control
no-initiator : (c : Bidi) → IsNoControl c → is_initiator c ≡ false
unfolding is_removed is_isolate_control
no-initiator L h = refl
no-initiator R h = refl
no-initiator Al h = refl
no-initiator En h = refl
no-initiator Es h = refl
no-initiator Et h = refl
no-initiator An h = refl
no-initiator Cs h = refl
no-initiator Nsm h = refl
no-initiator B h = refl
no-initiator S h = refl
no-initiator Ws h = refl
no-initiator On h = refl
no-initiator c h = absurd (false≢true (sym h))

free-at : (cs : List Bidi) → All IsNoControl cs → (i : ℕ) → IfSome (slice_get cs i) IsNoControl
free-at [] a i = tt
free-at (c ∷ cs) a zero = All-head IsNoControl c cs a
free-at (c ∷ cs) a (suc i) = free-at cs (All-tail IsNoControl c cs a) i

matched-none : (o : Option Bidi) → IfSome o IsNoControl → (k : ℕ) (rest : List Bidi) → elim o as (λ _. Option ℕ) [ Some c ↦ matched k c rest | None ↦ None ] ≡ None
matched-none None h k rest = refl
matched-none (Some c) h k rest = rw (no-initiator c h) refl

-- no PDI matches anything
matching-none : (cs : List Bidi) → All IsNoControl cs → (i : ℕ) → matching cs i ≡ None
matching-none cs a i = matched-none (slice_get cs i) (free-at cs a i) i (drop (suc i) cs)

-- what is kept at a place
at-place : (p : ℕ) (cs : List Bidi) (i : ℕ) → i < length cs → (c : Bidi) × (kept_at (map (kept_at_level p) cs) i ≡ kept_at_level p c)
at-place p [] i h = absurd (omega arith)
at-place p (c ∷ cs) zero h = (c, refl)
at-place p (c ∷ cs) (suc i) h = at-place p cs i (omega arith)

level-at : (p : ℕ) (cs : List Bidi) (i : ℕ) → level_or p (map (kept_at_level p) cs) (Some i) ≡ p
level-at p [] i = refl
level-at p (c ∷ cs) zero = refl
level-at p (c ∷ cs) (suc i) = level-at p cs i

level-of : (p : ℕ) (cs : List Bidi) (o : Option ℕ) → level_or p (map (kept_at_level p) cs) o ≡ p
level-of p cs None = refl
level-of p cs (Some i) = level-at p cs i

-- the first kept place from a place on
kept-here : (p : ℕ) (cs : List Bidi) (j k : ℕ) → j < length cs → kept_from k (drop j (map (kept_at_level p) cs)) ≡ Some k
kept-here p [] j k h = absurd (omega arith)
kept-here p (c ∷ cs) zero k h = refl
kept-here p (c ∷ cs) (suc j) k h = kept-here p cs j k (omega arith)

kept-past : (p : ℕ) (cs : List Bidi) (j k : ℕ) → length cs ≤ j → kept_from k (drop j (map (kept_at_level p) cs)) ≡ None
kept-past p [] zero k h = refl
kept-past p [] (suc j) k h = refl
kept-past p (c ∷ cs) zero k h = absurd (omega arith)
kept-past p (c ∷ cs) (suc j) k h = kept-past p cs j k (omega arith)

same : (n : ℕ) → (n == n) ≡ true
same n = elim (eqb_tells n n) [ inl h ↦ h.0 | inr h ↦ absurd (h.1 refl) ]

other : (m n : ℕ) → m < n → (m == n) ≡ false
other m n lt = elim (eqb_tells m n) [ inl h ↦ absurd (let e = h.1 in omega arith) | inr h ↦ h.0 ]

either : (o : Option ℕ) (b : Bool) → (if b then o else o) ≡ o
either o true = refl
either o false = refl

list_any-none : (q : ℕ → Bool) → ((j : ℕ) → q j ≡ false) → (xs : List ℕ) → list_any q xs ≡ false
list_any-none q h [] = refl
list_any-none q h (x ∷ xs) = ap₂ (λ a b. a || b) (h x) (list_any-none q h xs)

list_any-range : (q : ℕ → Bool) (a m k : ℕ) → k < m → q (a + k) ≡ true → list_any q (range_with_len a m) ≡ true
list_any-range q a zero k h e = absurd (omega arith)
list_any-range q a (suc m) zero h e =
    let here : q a ≡ true = ap q (let s : a ≡ a + 0 = omega arith in s) ∙ e in
    ap (λ b. b || list_any q (range_with_len (a + 1) m)) here
list_any-range q a (suc m) (suc k) h e =
    let later : q ((a + 1) + k) ≡ true = ap q (let s : (a + 1) + k ≡ a + suc k = omega arith in s) ∙ e in
    ap (λ b. q a || b) (list_any-range q (a + 1) m k (omega arith) later) ∙ or-true (q a)

filter-none : (q : ℕ → Bool) (a m : ℕ) → ((k : ℕ) → k < m → q (a + k) ≡ false) → filter q (range_with_len a m) ≡ []
filter-none q a zero h = refl
filter-none q a (suc m) h =
    let here : q a ≡ false = ap q (let s : a ≡ a + 0 = omega arith in s) ∙ h 0 (omega arith) in
    ap (λ b. if b then a ∷ filter q (range_with_len (a + 1) m) else filter q (range_with_len (a + 1) m)) here
    ∙ filter-none q (a + 1) m (λ k lt. ap q (let s : (a + 1) + k ≡ a + suc k = omega arith in s) ∙ h (suc k) (omega arith))

-- the places of a chain after one that leads here
abbrev led : (ℕ → Option ℕ) → ℕ → Option ℕ → List ℕ
led f m o = elim o [ Some j ↦ chain f m j | None ↦ [] ]

led-none : (f : ℕ → Option ℕ) (o : Option ℕ) → led f 0 o ≡ []
led-none f None = refl
led-none f (Some j) = refl

-- a chain of which each place but the last leads to the one after it
chain-range : (f : ℕ → Option ℕ) (m i n : ℕ) → i + m ≡ n → ((k : ℕ) → suc k < n → f k ≡ Some (suc k)) → chain f m i ≡ range_with_len i m
chain-range f zero i n e h = refl
chain-range f (suc zero) i n e h = ap (λ js. i ∷ js) (led-none f (f i))
chain-range f (suc (suc m)) i n e h =
    ap (λ o. i ∷ led f (suc m) o) (h i (omega arith))
    ∙ ap (λ js. i ∷ js) (chain-range f (suc m) (suc i) n (omega arith) h ∙ ap (λ k. range_with_len k (suc m)) (let s : suc i ≡ i + 1 = omega arith in s))

module _ (p : ℕ) (cs : List Bidi) (a : All IsNoControl cs) where
  places : List (Option Kept)
  places = map (kept_at_level p) cs

  following : ℕ → Option ℕ
  following = next cs places

  -- each place but the last is followed by the one after it
  leads-on : (i : ℕ) → suc i < length cs → following i ≡ Some (suc i)
  unfolding places following
  leads-on i lt =
      let here = at-place p cs i (omega arith) in
      let there = at-place p cs (suc i) lt in
      let after : kept_after places i ≡ Some (suc i) = kept-here p cs (suc i) (suc i) lt in
      ap (λ o. if is_some (kept_at places i) then (if has_level_of places i o then o else over_isolate places (matching cs i)) else None) after
      ∙ ap₂ (λ x y. if is_some x then (if same_level x y then Some (suc i) else over_isolate places (matching cs i)) else None) here.1 there.1
      ∙ ap (λ b. if b then Some (suc i) else over_isolate places (matching cs i)) (same p)

  -- the last is followed by none
  leads-nowhere : (i : ℕ) → length cs ≤ suc i → following i ≡ None
  unfolding places following
  leads-nowhere i past =
      let after : kept_after places i ≡ None = kept-past p cs (suc i) (suc i) past in
      ap (λ o. if is_some (kept_at places i) then (if has_level_of places i o then o else over_isolate places (matching cs i)) else None) after
      ∙ ap (λ o. if is_some (kept_at places i) then over_isolate places o else None) (matching-none cs a i)
      ∙ either None (is_some (kept_at places i))

  never-first : (j : ℕ) → is_place 0 (following j) ≡ false
  never-first j =
      elim (cases_lt (suc j) (length cs)) [
        | inl lt ↦ ap (is_place 0) (leads-on j lt) ∙ other 0 (suc j) (omega arith)
        | inr past ↦ ap (is_place 0) (leads-nowhere j past)
      ]

  kept-in : (i : ℕ) → i < length cs → is_some (kept_at places i) ≡ true
  unfolding places
  kept-in i lt = ap is_some (at-place p cs i lt).1

  first-begins : 0 < length cs → begins following places 0 ≡ true
  first-begins lt = ap₂ (λ x y. x && not y) (kept-in 0 lt) (list_any-none (λ j. is_place 0 (following j)) never-first (below (length places)))

  no-other-begins : (i : ℕ) → suc i < length cs → begins following places (suc i) ≡ false
  unfolding places
  no-other-begins i lt =
      let n : length places ≡ length cs = length-map cs (kept_at_level p) in
      let led : is_place (suc i) (following (0 + i)) ≡ true = ap (λ k. is_place (suc i) (following k)) (zero-add i) ∙ ap (is_place (suc i)) (leads-on i lt) ∙ same (suc i) in
      ap (λ f. is_some (kept_at places (suc i)) && not f) (list_any-range (λ j. is_place (suc i) (following j)) 0 (length places) i (omega arith) led)
      ∙ and-false (is_some (kept_at places (suc i)))

  one-begins : (m : ℕ) → suc m ≡ length cs → filter (begins following places) (below (suc m)) ≡ 0 ∷ []
  one-begins m e =
      ap (λ b. if b then 0 ∷ filter (begins following places) (range_with_len 1 m) else filter (begins following places) (range_with_len 1 m)) (first-begins (omega arith))
      ∙ ap (λ is. 0 ∷ is) (filter-none (begins following places) 1 m (λ k lt. ap (begins following places) (let s : 1 + k ≡ suc k = omega arith in s) ∙ no-other-begins k (omega arith)))

  -- the sequence that begins at the first place has all of them
  all-in-one : (u : ℕ → Bool) (m : ℕ) → suc m ≡ length cs → sequence_from p following u places 0
      ≡ (record { places = below (suc m); level = p; sos = direction_between p p; eos = direction_between p p })
  unfolding places
  all-in-one u m e =
      let chained = chain following (length places) 0 in
      let last = last_or 0 chained in
      let n : length places ≡ suc m = length-map cs (kept_at_level p) ∙ sym e in
      let whole : chained ≡ below (suc m) =
      ap (λ k. chain following k 0) n ∙ chain-range following (suc m) 0 (length cs) (omega arith) (λ k lt. leads-on k lt) in
      let sos : sos_of p places 0 ≡ direction_between p p = ap₂ direction_between (level-at p cs 0) (level-of p cs (kept_before places 0)) in
      let eos : eos_of p (u last) places last ≡ direction_between p p =
      ap₂ direction_between (level-at p cs last) (ap (λ l. if u last then p else l) (level-of p cs (kept_after places last)) ∙ either-level (u last)) in
      ap₂ (λ js l. let s : RunSequence = record { places = js; level = l; sos = sos_of p places 0; eos = eos_of p (u last) places last } in s) whole (level-at p cs 0)
      ∙ ap₂ (λ x y. let s : RunSequence = record { places = below (suc m); level = p; sos = x; eos = y } in s) sos eos
    where
      either-level : (b : Bool) → (if b then p else p) ≡ p
      either-level true = refl
      either-level false = refl

  pub sequences-uniform : sequences_of p cs (map (kept_at_level p) cs) ≡ one_sequence p (length cs)
  unfolding places following
  sequences-uniform = by-count (length cs) refl
    where
      by-count : (n : ℕ) → n ≡ length cs → sequences_of p cs (map (kept_at_level p) cs) ≡ one_sequence p n
      by-count zero e =
          ap (λ n. map (sequence_from p following (is_unmatched cs) places) (filter (begins following places) (below n))) (length-map cs (kept_at_level p) ∙ sym e)
      by-count (suc m) e =
          ap (λ n. map (sequence_from p following (is_unmatched cs) places) (filter (begins following places) (below n))) (length-map cs (kept_at_level p) ∙ sym e)
          ∙ ap (map (sequence_from p following (is_unmatched cs) places)) (one-begins m e)
          ∙ ap (λ s. s ∷ []) (all-in-one (is_unmatched cs) m e)

-- what the rules make of the paragraph
pub embedding-uniform : (p : ℕ) (cs : List Bidi) → list_any is_control cs ≡ false
    → (record { level = p; places = map (kept_at_level p) cs; sequences = one_sequence p (length cs) }) ≡ embedding_at p cs
embedding-uniform p cs h =
    let a = no-controls cs h in
    ap (λ s. let e : Embedding = record { level = p; places = map (kept_at_level p) cs; sequences = s } in e) (sym (sequences-uniform p cs a))
    ∙ ap (λ ps. let e : Embedding = record { level = p; places = ps; sequences = sequences_of p cs ps } in e) (sym (places-uniform p cs a))
