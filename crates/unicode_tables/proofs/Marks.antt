-- The tables that words make, and what look-ups find in them.
use Rattle.std.proofs.Common.{◌≡◌, ℕ, ◌+◌, ◌*◌, ◌<◌, ◌≤◌, Bool, true, false, List, Option, Some, None, get_or, refl, ap, subst, ◌∙◌, sym, inl, inr, arith}
use Rattle.std.proofs.lemmas.Bool.{cases_lt}
use Rattle.std.proofs.lemmas.Bool.Decides.{nat_tests}
use Rattle.std.specs.Prelude.{is_some}
use Rattle.std.proofs.Math.Bool.{beq}
use Rattle.bg_types.specs.declared.class.Bidi.{Bidi}
use Rattle.bg_types.specs.declared.class.Bidi.TheVariants.{L}
use Rattle.bg_types.specs.declared.class.Lb.{Lb}
use Rattle.bg_types.specs.declared.class.Lb.TheVariants.{Xx}
use Rattle.bg_types.specs.declared.class.Ea.{Ea}
use Rattle.bg_types.specs.declared.class.Ea.TheVariants.{N}
use Rattle.unicode_tables.specs.declared.bracket.Bracket.{Bracket}
use Rattle.unicode_tables.specs.declared.bracket.Bracket.TheVariants.{None as no_bracket, Open, Close}
use Rattle.unicode_tables.specs.declared.word.Word.{Word}
use Rattle.unicode_tables.specs.declared.word.Properties.{Properties}
use Rattle.unicode_tables.specs.declared.words.Words.{Words}
use Rattle.unicode_tables.specs.Tables.{TableValues, tables_of_lists, bracket_of, mirror_of}
use Rattle.unicode_tables.specs.Classes.{is_space}
use Rattle.unicode_tables.specs.Alone.{is_plain, is_direction_mark, is_by_properties, columns_alone}
use Rattle.unicode_tables.specs.Word.{is_bracket, word_of_lists, word_of, word_with}
use Rattle.unicode_tables.specs.Evenness.{HasEvenMarks, IsWordIn}
use Rattle.unicode_tables.specs.Words.{word_in, HasMarks, tables_of_words}
use Rattle.unicode_tables.proofs.CodePoints.{each_below-at, each_below-same}

same_tables : {b b' : List Bidi} {k : List Bracket} {m : List (Option ℕ)} {l l' : List Lb} {e e' : List Ea} {wide : Bool}
    → b ≡ b' → l ≡ l' → e ≡ e'
    → ◌≡◌ {A = TableValues} (record { bidi = b; bracket = k; mirror = m; lb = l; ea = e; wide_ambiguous = wide }) (record { bidi = b'; bracket = k; mirror = m; lb = l'; ea = e'; wide_ambiguous = wide })
same_tables p q r = cc

-- the words of five properties make their tables
pub words-tables : (bidi : List Bidi) (bracket : List Bracket) (mirror : List (Option ℕ)) (lb : List Lb) (ea : List Ea) (words : Words)
    → ((c : ℕ) → c < 0x110000 → word_in words c ≡ word_of_lists bidi bracket mirror lb ea c)
    → tables_of_words words bracket mirror ≡ tables_of_lists bidi bracket mirror lb ea
words-tables bidi bracket mirror lb ea words is = same_tables
    (each_below-same 0x110000 _ _ L (λ c h. ap (λ w. w.bidi) (is c h)))
    (each_below-same 0x110000 _ _ Xx (λ c h. ap (λ w. w.lb) (is c h)))
    (each_below-same 0x110000 _ _ N (λ c h. ap (λ w. w.ea) (is c h)))

pub words-marks : (bidi : List Bidi) (bracket : List Bracket) (mirror : List (Option ℕ)) (lb : List Lb) (ea : List Ea) (words : Words)
    → ((c : ℕ) → c < 0x110000 → word_in words c ≡ word_of_lists bidi bracket mirror lb ea c)
    → HasMarks words bracket mirror
words-marks bidi bracket mirror lb ea words is = record {
  brackets = λ c h. ap (λ w. w.is_bracket) (is c h);
  mirrors = λ c h. ap (λ w. w.has_mirror) (is c h);
  plain = λ c h. ap (λ w. w.is_plain) (is c h);
  columns = λ c h. subst (λ (w : Word). w.columns ≡ columns_alone w.bidi w.lb w.ea c) (sym (is c h)) refl;
  spaces = λ c h. subst (λ (w : Word). w.is_space ≡ is_space w.lb) (sym (is c h)) refl;
}

pub not_bracket : (bracket : Bracket) → is_bracket bracket ≡ false → bracket ≡ no_bracket
not_bracket no_bracket h = refl
not_bracket (Open c) h = absurd cc
not_bracket (Close c) h = absurd cc

pub not_mirror : (mirror : Option ℕ) → is_some mirror ≡ false → mirror ≡ None
not_mirror None h = refl
not_mirror (Some c) h = absurd cc

pub same_word : {b b' : Bidi} {l l' : Lb} {e e' : Ea} {k k' m m' i i' s s' : Bool} {n n' : ℕ} → b ≡ b' → l ≡ l' → e ≡ e' → k ≡ k' → m ≡ m' → i ≡ i' → n ≡ n' → s ≡ s'
    → ◌≡◌ {A = Word} (record { bidi = b; lb = l; ea = e; is_bracket = k; has_mirror = m; is_plain = i; columns = n; is_space = s })
    (record { bidi = b'; lb = l'; ea = e'; is_bracket = k'; has_mirror = m'; is_plain = i'; columns = n'; is_space = s' })
same_word p q r s t u v w = cc

same_columns : {b b' : Bidi} {l l' : Lb} {e e' : Ea} (c : ℕ) → b ≡ b' → l ≡ l' → e ≡ e' → columns_alone b l e c ≡ columns_alone b' l' e' c
same_columns {b} {b'} {l} {l'} {e} {e'} c p q r = ap (λ x. columns_alone x l e c) p ∙ ap (λ x. columns_alone b' x e c) q ∙ ap (λ x. columns_alone b' l' x c) r

-- what a look-up finds is what the tables of the words say
pub word-found : (words : Words) (bracket : List Bracket) (mirror : List (Option ℕ)) (c : ℕ) → c < 0x110000 → HasMarks words bracket mirror
    → word_in words c ≡ word_of (tables_of_words words bracket mirror) c
word-found words bracket mirror c h marks =
    let bidi = sym (each_below-at 0x110000 (λ k. (word_in words k).bidi) c L h) in
    let lb = sym (each_below-at 0x110000 (λ k. (word_in words k).lb) c Xx h) in
    let ea = sym (each_below-at 0x110000 (λ k. (word_in words k).ea) c N h) in
    same_word bidi lb ea
    (marks.brackets c h ∙ ap is_bracket (sym (each_below-at 0x110000 (λ k. get_or bracket k no_bracket) c no_bracket h)))
    (marks.mirrors c h ∙ ap is_some (sym (each_below-at 0x110000 (λ k. get_or mirror k None) c None h)))
    (marks.plain c h) (marks.columns c h ∙ same_columns c bidi lb ea) (marks.spaces c h ∙ ap is_space lb)

-- a code point whose word has no mark has no bracket, or no mirror
pub bracket-absent : (words : Words) (bracket : List Bracket) (mirror : List (Option ℕ)) (c : ℕ) → c < 0x110000 → HasMarks words bracket mirror
    → (word_in words c).is_bracket ≡ false → no_bracket ≡ bracket_of (tables_of_words words bracket mirror) c
bracket-absent words bracket mirror c h marks off =
    sym (each_below-at 0x110000 (λ k. get_or bracket k no_bracket) c no_bracket h ∙ not_bracket (get_or bracket c no_bracket) (sym (marks.brackets c h) ∙ off))

pub mirror-absent : (words : Words) (bracket : List Bracket) (mirror : List (Option ℕ)) (c : ℕ) → c < 0x110000 → HasMarks words bracket mirror
    → (word_in words c).has_mirror ≡ false → None ≡ mirror_of (tables_of_words words bracket mirror) c
mirror-absent words bracket mirror c h marks off =
    sym (each_below-at 0x110000 (λ k. get_or mirror k None) c None h ∙ not_mirror (get_or mirror c None) (sym (marks.mirrors c h) ∙ off))

-- a block by properties stands behind the plain code points, and before or behind the marks of direction
by_properties-behind : (block : ℕ) → is_by_properties block ≡ true → 7 ≤ block
by_properties-behind block h = grind (arith, nat_tests)

by_properties-apart : (block : ℕ) → is_by_properties block ≡ true → 32 ≤ block → 33 ≤ block
by_properties-apart block h from = grind (arith, nat_tests)

plain-none : (c : ℕ) → 7 * 256 ≤ c → is_plain c ≡ false
plain-none c h = grind (arith, nat_tests)

direction_mark-before : (c : ℕ) → 7 * 256 ≤ c → c < 32 * 256 → is_direction_mark c ≡ false
direction_mark-before c h k = grind (arith, nat_tests)

direction_mark-behind : (c : ℕ) → 33 * 256 ≤ c → is_direction_mark c ≡ false
direction_mark-behind c h = grind (arith, nat_tests)

-- so none of its code points is one of them
module _ (block : ℕ) (far : is_by_properties block ≡ true) where
  not-plain : (k : ℕ) → is_plain (block * 256 + k) ≡ false
  not-plain k = let behind = by_properties-behind block far in plain-none (block * 256 + k) (omega arith)

  not-direction_mark : (k : ℕ) → k < 256 → is_direction_mark (block * 256 + k) ≡ false
  not-direction_mark k h =
      let behind = by_properties-behind block far in
      elim (cases_lt block 32) [
        | inl lt ↦ direction_mark-before (block * 256 + k) (omega arith) (omega arith)
        | inr ge ↦ let apart = by_properties-apart block far ge in direction_mark-behind (block * 256 + k) (omega arith)
      ]

-- two tests of which a comparison tells that they are the same
pub same_bool : (a b : Bool) → beq a b ≡ true → a ≡ b
same_bool true true h = refl
same_bool true false h = absurd cc
same_bool false true h = absurd cc
same_bool false false h = refl

-- of a code point nothing but whether it is a mark of direction is asked
columns-unmarked : (b : Bidi) (l : Lb) (e : Ea) (n m : ℕ) → is_direction_mark n ≡ is_direction_mark m → columns_alone b l e n ≡ columns_alone b l e m
columns-unmarked b l e n m same = cc

-- where the properties tell the same of two code points of a block, they have one word
words-same : (properties : Properties) (block k j : ℕ) → is_by_properties block ≡ true → k < 256 → j < 256
    → get_or properties.bidi.now (block * 256 + k) L ≡ get_or properties.bidi.now (block * 256 + j) L
    → get_or properties.lb.now (block * 256 + k) Xx ≡ get_or properties.lb.now (block * 256 + j) Xx
    → get_or properties.ea.now (block * 256 + k) N ≡ get_or properties.ea.now (block * 256 + j) N
    → is_bracket (get_or properties.bracket.now (block * 256 + k) no_bracket) ≡ is_bracket (get_or properties.bracket.now (block * 256 + j) no_bracket)
    → is_some (get_or properties.mirror.now (block * 256 + k) None) ≡ is_some (get_or properties.mirror.now (block * 256 + j) None)
    → word_with properties (block * 256 + k) ≡ word_with properties (block * 256 + j)
words-same properties block k j far h i p q r s t =
    same_word p q r s t
    (not-plain block far k ∙ sym (not-plain block far j))
    (same_columns (block * 256 + k) p q r
    ∙ columns-unmarked _ _ _ (block * 256 + k) (block * 256 + j) (not-direction_mark block far k h ∙ sym (not-direction_mark block far j i)))
    (ap is_space q)

-- of a block in which each property has one value all code points have the word of the first
pub words_even : (properties : Properties) (block k : ℕ) → is_by_properties block ≡ true → k < 256 → HasEvenMarks properties block
    → get_or properties.bidi.now (block * 256 + k) L ≡ get_or properties.bidi.now (block * 256) L
    → get_or properties.lb.now (block * 256 + k) Xx ≡ get_or properties.lb.now (block * 256) Xx
    → get_or properties.ea.now (block * 256 + k) N ≡ get_or properties.ea.now (block * 256) N
    → word_with properties (block * 256 + k) ≡ word_with properties (block * 256)
words_even properties block k far h even p q r =
    let first : block * 256 ≡ block * 256 + 0 = omega arith in
    words-same properties block k 0 far h (omega arith)
    (p ∙ ap (λ n. get_or properties.bidi.now n L) first) (q ∙ ap (λ n. get_or properties.lb.now n Xx) first) (r ∙ ap (λ n. get_or properties.ea.now n N) first)
    (ap is_bracket (even.brackets k h ∙ sym (even.brackets 0 (omega arith)))) (ap is_some (even.mirrors k h ∙ sym (even.mirrors 0 (omega arith))))
    ∙ ap (word_with properties) (sym first)

module _ (properties : Properties) (word : Word) (block place : ℕ) (known : IsWordIn properties block word) (h : place < 256) where
  -- the bracket and the mirror of a code point are as the word says, where those of its block are even
  pub bracket-even : HasEvenMarks properties block → is_bracket (get_or properties.bracket.now (block * 256 + place) no_bracket) ≡ word.is_bracket
  bracket-even even = ap is_bracket (even.brackets place h ∙ sym (even.brackets known.place known.within)) ∙ sym (ap (λ (w : Word). w.is_bracket) known.is)

  pub mirror-even : HasEvenMarks properties block → is_some (get_or properties.mirror.now (block * 256 + place) None) ≡ word.has_mirror
  mirror-even even = ap is_some (even.mirrors place h ∙ sym (even.mirrors known.place known.within)) ∙ sym (ap (λ (w : Word). w.has_mirror) known.is)

  -- where the properties tell the same as a word of the block, it is the code point's
  pub word-beside : is_by_properties block ≡ true
      → get_or properties.bidi.now (block * 256 + place) L ≡ word.bidi → get_or properties.lb.now (block * 256 + place) Xx ≡ word.lb
      → get_or properties.ea.now (block * 256 + place) N ≡ word.ea
      → is_bracket (get_or properties.bracket.now (block * 256 + place) no_bracket) ≡ word.is_bracket
      → is_some (get_or properties.mirror.now (block * 256 + place) None) ≡ word.has_mirror
      → word_with properties (block * 256 + place) ≡ word
  word-beside far bidi lb ea bracket mirror =
      words-same properties block place known.place far h known.within
      (bidi ∙ ap (λ (w : Word). w.bidi) known.is) (lb ∙ ap (λ (w : Word). w.lb) known.is) (ea ∙ ap (λ (w : Word). w.ea) known.is)
      (bracket ∙ ap (λ (w : Word). w.is_bracket) known.is) (mirror ∙ ap (λ (w : Word). w.has_mirror) known.is)
      ∙ sym known.is
