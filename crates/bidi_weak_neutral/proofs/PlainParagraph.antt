-- A paragraph of plain classes alone is at level 0 throughout.
use Rattle.std.proofs.Common.{ℕ, zero, suc, ◌≡◌, refl, ap, ap₂, sym, subst, ◌∙◌, List, [], ◌∷◌, map, filter, length, replicate, Bool, true, false, Option, Some, None}
use Rattle.std.specs.Prelude.{◌&&◌, if◌then◌else◌}
use Rattle.std.specs.List.{All, list_all}
use Rattle.std.proofs.lemmas.Bool.{false≢true}
use Rattle.std.proofs.lemmas.List.{length-map}
use Rattle.std.proofs.lemmas.List.Elements.{All-nil, All-cons, All-head, All-tail, All-map}
use Rattle.bg_types.specs.declared.class.Bidi.{Bidi}
use Rattle.bg_types.specs.declared.class.Bidi.TheVariants.{L, En, Es, Et, Cs, Nsm, B, S, Ws, On}
use Rattle.bg_types.specs.declared.class.Base.{Base}
use Rattle.bg_types.specs.declared.class.Base.TheVariants.{Auto, Left, Right}
use Rattle.unicode_tables.specs.Tables.{TableValues, bidi_of}
use Rattle.paragraphs.specs.Classes.{is_separator, is_removed}
use Rattle.bidi_explicit.specs.declared.kept.Kept.{Kept}
use Rattle.bidi_explicit.specs.Embedding.{Embedding, embedding, embedding_at, paragraph_level}
use Rattle.bidi_explicit.specs.Levels.{descend, explicit_places, none_open, plain}
use Rattle.bidi_explicit.specs.Nesting.{base, nest}
use Rattle.bidi_explicit.specs.Sequences.{kept_at, kept_before, kept_after, level_or, sos_of, eos_of, is_unmatched, direction_between, last_or, chain, next, begins, below, sequence_from, sequences_of}
use Rattle.bidi_weak_neutral.specs.Classes.{is_plain}
use Rattle.bidi_weak_neutral.specs.Weak.{weak_types}
use Rattle.bidi_weak_neutral.specs.Neutral.{n1, n2, implicit_level}
use Rattle.bracket_pairs.specs.N0.{n0}
use Rattle.bidi_weak_neutral.specs.Levels.{type_of, characters_of, sequence_levels, resolved_levels}
use Rattle.bidi_weak_neutral.proofs.AllLevels.{resolved_levels-all, length-resolved_levels}
use Rattle.bidi_weak_neutral.proofs.PlainRules.{Plain, plain-On, plain-levels}

-- a kept place at level 0
abbrev at_zero : Bidi → Option Kept
at_zero c = Some (record { level = 0; class = c })

-- P2, P3
base-plain : (c : Bidi) (cs : List Bidi) → Plain c → base (nest cs) ≡ 0 → base (nest (c ∷ cs)) ≡ 0
unfolding is_plain
base-plain L cs p r = refl
base-plain En cs p r = r
base-plain Es cs p r = r
base-plain Et cs p r = r
base-plain Cs cs p r = r
base-plain Nsm cs p r = r
base-plain B cs p r = r
base-plain S cs p r = r
base-plain Ws cs p r = r
base-plain On cs p r = r
base-plain c cs p r = absurd (false≢true p)

base-zero : (cs : List Bidi) → All Plain cs → base (nest cs) ≡ 0
base-zero [] a = refl
base-zero (c ∷ cs) a = base-plain c cs (All-head Plain c cs a) (base-zero cs (All-tail Plain c cs a))

-- the level of a plain paragraph, unless the base says right to left
level-zero : (b : Base) (cs : List Bidi) → (b ≡ Right → ⊥) → All Plain cs → paragraph_level b cs ≡ 0
level-zero Auto cs free a = base-zero cs a
level-zero Left cs free a = refl
level-zero Right cs free a = absurd (free refl)

-- X1 to X9
descend-plain : (c : Bidi) (cs : List Bidi) → Plain c
    → descend 0 (plain 0) none_open (nest (c ∷ cs)) ≡ at_zero c ∷ descend 0 (plain 0) none_open (nest cs)
unfolding is_plain is_separator is_removed
descend-plain L cs p = refl
descend-plain En cs p = refl
descend-plain Es cs p = refl
descend-plain Et cs p = refl
descend-plain Cs cs p = refl
descend-plain Nsm cs p = refl
descend-plain B cs p = refl
descend-plain S cs p = refl
descend-plain Ws cs p = refl
descend-plain On cs p = refl
descend-plain c cs p = absurd (false≢true p)

places-plain : (cs : List Bidi) → All Plain cs → explicit_places 0 cs ≡ map at_zero cs
places-plain [] a = refl
places-plain (c ∷ cs) a =
    descend-plain c cs (All-head Plain c cs a) ∙ ap (λ ps. at_zero c ∷ ps) (places-plain cs (All-tail Plain c cs a))

abbrev level_of : Option Kept → ℕ
level_of (Some k) = k.level
level_of None = 0

-- what holds of a missing place and of each place at level 0 holds of what is kept anywhere
kept_at-all : (P : Option Kept → Type 0) → P None → (cs : List Bidi) → All (λ c. P (at_zero c)) cs → (i : ℕ) → P (kept_at (map at_zero cs) i)
kept_at-all P none [] a i = none
kept_at-all P none (c ∷ cs) a zero = All-head (λ c. P (at_zero c)) c cs a
kept_at-all P none (c ∷ cs) a (suc i) = kept_at-all P none cs (All-tail (λ c. P (at_zero c)) c cs a) i

level_of-is : (o : Option Kept) → elim o as (λ _. ℕ) [ Some k ↦ k.level | None ↦ 0 ] ≡ level_of o
level_of-is (Some k) = refl
level_of-is None = refl

same-if : (b : Bool) (n : ℕ) → n ≡ 0 → (if b then 0 else n) ≡ 0
same-if true n e = refl
same-if false n e = e

all-zero : (xs : List ℕ) → All (λ l. l ≡ 0) xs → xs ≡ replicate (length xs) 0
all-zero [] a = refl
all-zero (x ∷ xs) a = ap₂ (λ y ys. y ∷ ys) (All-head (λ l. l ≡ 0) x xs a) (all-zero xs (All-tail (λ l. l ≡ 0) x xs a))

-- the levels of a sequence of plain types, by what its level and its directions are
flat-levels : (tables : TableValues) (chars : List ℕ) (before : List Bidi) (level : ℕ) (sos eos : Bidi) → level ≡ 0 → sos ≡ L → eos ≡ L → All Plain before
    → All (λ l. l ≡ 0) (map (implicit_level level) (n2 level (n1 sos eos (n0 tables level sos chars before (weak_types sos before)))))
flat-levels tables chars before level sos eos e f g a =
    subst (λ level. All (λ l. l ≡ 0) (map (implicit_level level) (n2 level (n1 sos eos (n0 tables level sos chars before (weak_types sos before)))))) (sym e)
    (subst (λ sos. All (λ l. l ≡ 0) (map (implicit_level 0) (n2 0 (n1 sos eos (n0 tables 0 sos chars before (weak_types sos before)))))) (sym f)
    (subst (λ eos. All (λ l. l ≡ 0) (map (implicit_level 0) (n2 0 (n1 L eos (n0 tables 0 L chars before (weak_types L before)))))) (sym g)
    (plain-levels tables chars before a)))

module _ (cs : List Bidi) (a : All Plain cs) where
  places : List (Option Kept)
  places = map at_zero cs

  level_or-zero : (o : Option ℕ) → level_or 0 places o ≡ 0
  unfolding places
  level_or-zero None = refl
  level_or-zero (Some i) = level_of-is (kept_at places i) ∙ kept_at-all (λ o. level_of o ≡ 0) refl cs (λ k d lt. refl) i

  type-plain : (i : ℕ) → Plain (type_of (kept_at places i))
  unfolding places
  type-plain i = kept_at-all (λ o. Plain (type_of o)) plain-On cs a i

  -- X10
  sequence-zero : (tables : TableValues) (points : List ℕ) (first : ℕ) → All (λ l. l ≡ 0) (sequence_levels tables points places (sequence_from 0 (next cs places) (is_unmatched cs) places first))
  sequence-zero tables points first =
      let chained = chain (next cs places) (length places) first in
      let last = last_or first chained in
      let s = sequence_from 0 (next cs places) (is_unmatched cs) places first in
      let level : level_or 0 places (Some first) ≡ 0 = level_or-zero (Some first) in
      let sos : sos_of 0 places first ≡ L = ap₂ direction_between level (level_or-zero (kept_before places first)) in
      let eos : eos_of 0 (is_unmatched cs last) places last ≡ L =
      ap₂ direction_between (level_or-zero (Some last)) (same-if (is_unmatched cs last) (level_or 0 places (kept_after places last)) (level_or-zero (kept_after places last))) in
      let before : All Plain (map (λ i. type_of (kept_at places i)) chained) =
      All-map Plain (λ i. type_of (kept_at places i)) chained (λ k d lt. type-plain _) in
      flat-levels tables (characters_of points s) (map (λ i. type_of (kept_at places i)) chained)
      (level_or 0 places (Some first)) (sos_of 0 places first) (eos_of 0 (is_unmatched cs last) places last) level sos eos before

  sequences-zero : (tables : TableValues) (points : List ℕ) → All (λ s. All (λ l. l ≡ 0) (sequence_levels tables points places s)) (sequences_of 0 cs places)
  sequences-zero tables points =
      All-map (λ s. All (λ l. l ≡ 0) (sequence_levels tables points places s)) (sequence_from 0 (next cs places) (is_unmatched cs) places) (filter (begins (next cs places) places) (below (length places)))
      (λ k d lt. sequence-zero tables points _)

  pub plain-resolved : (b : Base) (tables : TableValues) (points : List ℕ) → (b ≡ Right → ⊥) → length cs ≡ length points
      → resolved_levels tables points (embedding b cs) ≡ replicate (length points) 0
  unfolding places
  plain-resolved b tables points free n =
      let ps : explicit_places 0 cs ≡ map at_zero cs = places-plain cs a in
      let flat : Embedding = record { level = 0; places = map at_zero cs; sequences = sequences_of 0 cs (map at_zero cs) } in
      let is : embedding b cs ≡ flat =
      ap (λ p. let e : Embedding = record { level = p; places = explicit_places p cs; sequences = sequences_of p cs (explicit_places p cs) } in e) (level-zero b cs free a)
      ∙ ap (λ q. let e : Embedding = record { level = 0; places = q; sequences = sequences_of 0 cs q } in e) ps in
      let zeros = resolved_levels-all (λ l. l ≡ 0) tables points flat refl (sequences-zero tables points) in
      ap (resolved_levels tables points) is
      ∙ all-zero (resolved_levels tables points flat) zeros
      ∙ ap (λ k. replicate k 0) (length-resolved_levels tables points flat (length-map cs at_zero ∙ n))

and-left : (a b : Bool) → (a && b) ≡ true → a ≡ true
and-left true b e = refl
and-left false b e = e

and-right : (a b : Bool) → (a && b) ≡ true → b ≡ true
and-right true b e = e
and-right false b e = absurd (false≢true e)

passing : (cs : List Bidi) → list_all is_plain cs ≡ true → All Plain cs
passing [] e = All-nil Plain
passing (c ∷ cs) e = All-cons Plain c cs (and-left _ _ e) (passing cs (and-right _ _ e))

-- a paragraph of plain classes at level 0
pub plain-at_zero : (tables : TableValues) (points : List ℕ) (level : ℕ) (cs : List Bidi) → level ≡ 0 → list_all is_plain cs ≡ true → cs ≡ map (bidi_of tables) points
    → replicate (length points) 0 ≡ resolved_levels tables points (embedding_at level cs)
plain-at_zero tables points level cs zero_level p e =
    sym (plain-resolved cs (passing cs p) Left tables points left_is (ap length e ∙ length-map points (bidi_of tables)))
    ∙ ap (λ l. resolved_levels tables points (embedding_at l cs)) (sym zero_level)
  where
    left_is : Left ≡ Right → ⊥
    left_is h = cc
