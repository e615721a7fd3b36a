-- The statuses of code points, one further.
use Rattle.std.proofs.Common.{◌≡◌, ℕ, zero, suc, ◌+◌, ◌-◌, ◌<◌, ◌≤◌, Some, List, [], ◌∷◌, ◌++◌, map, length, take, drop, get_or, refl, sym, ap, ◌∙◌, arith}
use Rattle.std.specs.List.{slice_get}
use Rattle.std.proofs.Math.Seq.{take-length}
use Rattle.std.proofs.lemmas.List.{append_assoc, drop-drop, drop-map, length-drop, nil_from_length}
use Rattle.std.proofs.lemmas.Simd.{map-map}
use Rattle.unicode_tables.specs.Tables.{TableValues}
use Rattle.unicode_tables.specs.Word.{word_of}
use Rattle.unicode_tables.specs.declared.word.Word.{Word}
use Rattle.paragraphs.specs.Text.{code_points}
use Rattle.line_break.specs.declared.status.Break.{Break}
use Rattle.line_break.specs.declared.status.Break.TheVariants.{May, Must}
use Rattle.line_break.specs.Items.{point_of_word}
use Rattle.line_break.specs.Context.{before, after}
use Rattle.line_break.specs.Rules.{first_rule, rules}
use Rattle.line_break.specs.Statuses.{statuses, breaks}
use Rattle.line_break.specs.States.{IsBehind}
use Rattle.line_break.specs.Marked.{statuses_from, IsMarkedTo}

-- the statuses of the words of a text's code points are its own
pub breaks-of : (tables : TableValues) (text points : List ℕ) (words : List Word) (all : List Break) → points ≡ code_points text
    → words ≡ map (word_of tables) points → all ≡ statuses (map point_of_word words) → all ≡ breaks tables text
unfolding breaks
breaks-of tables text points words all same each e =
    e ∙ ap (λ ws. statuses (map point_of_word ws)) (each ∙ ap (map (word_of tables)) same)
    ∙ ap statuses (map-map point_of_word (word_of tables) (code_points text))

-- the first word
pub words-first : (words : List Word) (word : Word) → Some word ≡ slice_get words 0 → words ≡ word ∷ drop 1 words
words-first [] word first = absurd (cc first)
words-first (w ∷ words) word first = let same : w ≡ word = cc first in ap (λ x. x ∷ words) same

module _ (words : List Word) where
  -- after the first code point
  pub IsMarkedTo-start : (word : Word) (rest : List Word) (done : List Break) (state : ℕ) → words ≡ word ∷ rest → done ≡ []
      → IsBehind (point_of_word word ∷ []) state → IsMarkedTo words rest done state
  unfolding statuses_from
  IsMarkedTo-start word rest done state e none k = record {
    front = point_of_word word ∷ [];
    behind = k;
    so_far =
        ap (λ d. d ++ statuses_from (point_of_word word ∷ []) (map point_of_word rest)) none
        ∙ ap (λ ws. statuses (map point_of_word ws)) (sym e);
  }

  module _ (rest : List Word) (done : List Break) (state : ℕ) (m : IsMarkedTo words rest done state) where
    -- one code point further
    pub IsMarkedTo-on : (word : Word) (later : List Word) (s : Break) (more : List Break) (next : ℕ) → rest ≡ word ∷ later
        → s ≡ first_rule rules May (before m.front) (after (point_of_word word)) → more ≡ done ++ s ∷ []
        → IsBehind (m.front ++ point_of_word word ∷ []) next → IsMarkedTo words later more next
    unfolding statuses_from
    IsMarkedTo-on word later s more next e here put k =
        let p = point_of_word word in
        record {
          front = m.front ++ p ∷ [];
          behind = k;
          so_far =
              ap (λ d. d ++ statuses_from (m.front ++ p ∷ []) (map point_of_word later)) put
              ∙ append_assoc done (s ∷ []) _
              ∙ ap (λ t. done ++ t ∷ statuses_from (m.front ++ p ∷ []) (map point_of_word later)) here
              ∙ ap (λ ws. done ++ statuses_from m.front (map point_of_word ws)) (sym e) ∙ m.so_far;
        }

    -- behind the last one
    pub statuses-end : (all : List Break) → rest ≡ [] → all ≡ done ++ Must ∷ [] → all ≡ statuses (map point_of_word words)
    unfolding statuses_from
    statuses-end all none put = put ∙ ap (λ ws. done ++ statuses_from m.front (map point_of_word ws)) (sym none) ∙ m.so_far

-- the list that a loop goes over, of all words but the first
abbrev behind_first : List Word → List Word
behind_first words = take (length words - 1) (drop 1 words)

-- what a slice from a place on has
pub slice-from : {A : Type 0} (i : ℕ) (xs : List A) → take (length xs - i) (drop i xs) ≡ drop i xs
slice-from i xs = ap (λ k. take k (drop i xs)) (sym (length-drop i xs)) ∙ take-length (drop i xs)

drop-at : (words : List Word) (i : ℕ) (d : Word) → i < length words → drop i words ≡ get_or words i d ∷ drop (suc i) words
drop-at [] i d lt = absurd (omega arith)
drop-at (w ∷ words) zero d lt = refl
drop-at (w ∷ words) (suc i) d lt = drop-at words i d (omega arith)

module _ (words : List Word) (i : ℕ) where
  pub next-word : (d : Word) → i < length (behind_first words) → drop (1 + i) words ≡ get_or (behind_first words) i d ∷ drop (1 + (i + 1)) words
  next-word d lt =
      let same = slice-from 1 words in
      let n = ap length same in
      let next : suc i ≡ i + 1 = omega arith in
      sym (drop-drop i 1 words) ∙ drop-at (drop 1 words) i d (omega arith)
      ∙ ap (λ xs. get_or xs i d ∷ drop (suc i) (drop 1 words)) (sym same)
      ∙ ap (λ xs. get_or (behind_first words) i d ∷ xs) (drop-drop (suc i) 1 words ∙ ap (λ k. drop (1 + k) words) next)

  pub no_word : length (behind_first words) ≤ i → drop (1 + i) words ≡ []
  no_word le =
      let n = ap length (slice-from 1 words) in
      let whole = length-drop 1 words in
      let left = length-drop (1 + i) words in
      nil_from_length (drop (1 + i) words) (omega arith)

-- the words of the code points from a place on
pub words-from : (tables : TableValues) (points : List ℕ) (words : List Word) (i : ℕ) → words ≡ map (word_of tables) points
    → take (length words - i) (drop i words) ≡ map (word_of tables) (take (length points - i) (drop i points))
words-from tables points words i each =
    slice-from i words ∙ ap (drop i) each ∙ drop-map (word_of tables) i points ∙ ap (map (word_of tables)) (sym (slice-from i points))
