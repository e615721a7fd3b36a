-- The pages of words, block by block.
use Rattle.std.proofs.Common.{◌≡◌, ℕ, ◌+◌, ◌-◌, ◌*◌, ◌/◌, ◌%◌, ◌<◌, ◌≤◌, List, [], ◌∷◌, ◌++◌, length, get_or, refl, ap, ◌∙◌, sym, inl, inr, arith}
use Rattle.std.proofs.lemmas.Bool.{cases_lt}
use Rattle.std.proofs.lemmas.List.{get_or_append_left, get_or-append-add, get_or_push, length-append, length_push}
use Rattle.std.proofs.lemmas.Nat.{div-add-mod', mod_below}
use Rattle.unicode_tables.specs.declared.word.Word.{Word}
use Rattle.unicode_tables.specs.declared.word.Properties.{Properties}
use Rattle.unicode_tables.specs.declared.words.Words.{Words}
use Rattle.unicode_tables.specs.Word.{absent_word, word_with}
use Rattle.unicode_tables.specs.Words.{word_in}

-- the words of a run of code points are put behind those before them
pub run-put : (properties : Properties) (block : ℕ) (page after : List Word) (from end : ℕ) (word : Word)
    → ((k : ℕ) → k < from → get_or page k absent_word ≡ word_with properties (block * 256 + k))
    → ((k : ℕ) → k < end → k < from → get_or after k absent_word ≡ get_or page k absent_word)
    → ((k : ℕ) → from ≤ k → k < end → get_or after k absent_word ≡ word)
    → ((k : ℕ) → from ≤ k → k < end → word_with properties (block * 256 + k) ≡ word)
    → (k : ℕ) → k < end → get_or after k absent_word ≡ word_with properties (block * 256 + k)
run-put properties block page after from end word so_far kept filled same k h = elim (cases_lt k from) [
  | inl lt ↦ kept k h lt ∙ so_far k lt
  | inr ge ↦ filled k ge h ∙ sym (same k ge h)
]

-- the first n blocks have their words
pub record AreFirst (properties : Properties) (starts : List ℕ) (pages : List Word) (n : ℕ) : Type 0 where
  pub len : length starts ≡ n
  pub within : (b : ℕ) → b < n → get_or starts b 0 + 256 ≤ length pages
  pub words : (b k : ℕ) → b < n → k < 256 → get_or pages (get_or starts b 0 + k) absent_word ≡ word_with properties (b * 256 + k)

pub first-none : (properties : Properties) (starts : List ℕ) (pages : List Word) → starts ≡ [] → AreFirst properties starts pages 0
first-none properties starts pages is = record { len = ap length is; within = λ b h. absurd (omega arith); words = λ b k h. absurd (omega arith) }

start-before : (starts after : List ℕ) (start n b : ℕ) → length starts ≡ n → after ≡ starts ++ start ∷ [] → b < n → get_or after b 0 ≡ get_or starts b 0
start-before starts after start n b len is h =
    ap (λ ss. get_or ss b 0) is ∙ get_or_append_left starts (start ∷ []) 0 b (omega (arith, len))

start-last : (starts after : List ℕ) (start n b : ℕ) → length starts ≡ n → after ≡ starts ++ start ∷ [] → b ≡ n → get_or after b 0 ≡ start
start-last starts after start n b len is at =
    ap (λ ss. get_or ss b 0) is ∙ get_or_push starts start 0 b (omega (arith, len))

-- the next block's words stand from a start on
first-more : (properties : Properties) (starts after : List ℕ) (pages grown : List Word) (start n : ℕ) → AreFirst properties starts pages n
    → after ≡ starts ++ start ∷ [] → length pages ≤ length grown
    → ((k : ℕ) → k < length pages → get_or grown k absent_word ≡ get_or pages k absent_word)
    → start + 256 ≤ length grown → ((k : ℕ) → k < 256 → get_or grown (start + k) absent_word ≡ word_with properties (n * 256 + k))
    → AreFirst properties after grown (n + 1)
first-more properties starts after pages grown start n w is longer same within value = record {
  len = ap length is ∙ length_push starts start ∙ ap (λ m. m + 1) w.len;
  within = λ b h. elim (cases_lt b n) [
    | inl lt ↦ let at = start-before starts after start n b w.len is lt in omega (arith, at, w.within b lt)
    | inr ge ↦ let at = start-last starts after start n b w.len is (omega arith) in omega (arith, at)
  ];
  words = λ b k h j. elim (cases_lt b n) [
    | inl lt ↦
        ap (λ s. get_or grown (s + k) absent_word) (start-before starts after start n b w.len is lt)
        ∙ same (get_or starts b 0 + k) (omega (arith, w.within b lt))
        ∙ w.words b k lt j
    | inr ge ↦
        let at : b ≡ n = omega arith in
        ap (λ s. get_or grown (s + k) absent_word) (start-last starts after start n b w.len is at)
        ∙ value k j ∙ ap (λ m. word_with properties (m * 256 + k)) (sym at)
  ];
}

-- the next block shares the page of the one before
pub first-shared : (properties : Properties) (starts after : List ℕ) (pages : List Word) (start n : ℕ) → AreFirst properties starts pages n
    → after ≡ starts ++ start ∷ [] → 0 < n → start ≡ get_or starts (n - 1) 0
    → ((k : ℕ) → k < 256 → word_with properties (n * 256 + k) ≡ word_with properties ((n - 1) * 256 + k))
    → AreFirst properties after pages (n + 1)
first-shared properties starts after pages start n w is behind shared same =
    first-more properties starts after pages pages start n w is (omega arith) (λ k h. refl)
    (omega (arith, shared, w.within (n - 1) (omega arith)))
    (λ k h. ap (λ s. get_or pages (s + k) absent_word) shared ∙ w.words (n - 1) k (omega arith) h ∙ sym (same k h))

-- the next block has a page of its own
pub first-put : (properties : Properties) (starts after : List ℕ) (pages page grown : List Word) (start n : ℕ) → AreFirst properties starts pages n
    → after ≡ starts ++ start ∷ [] → start ≡ length pages → length page ≡ 256
    → ((k : ℕ) → k < 256 → get_or page k absent_word ≡ word_with properties (n * 256 + k))
    → grown ≡ pages ++ page → AreFirst properties after grown (n + 1)
first-put properties starts after pages page grown start n w is end whole words put =
    let longer : length grown ≡ length pages + 256 = ap length put ∙ length-append pages page ∙ ap (λ m. length pages + m) whole in
    first-more properties starts after pages grown start n w is (omega arith)
    (λ k h. ap (λ ws. get_or ws k absent_word) put ∙ get_or_append_left pages page absent_word k h)
    (omega arith)
    (λ k h. ap (λ ws. get_or ws (start + k) absent_word) put ∙ ap (λ s. get_or (pages ++ page) (s + k) absent_word) end ∙ get_or-append-add pages page k absent_word ∙ words k h)

-- the word of the first code point of the last block
pub word-last : (properties : Properties) (starts : List ℕ) (pages : List Word) (n : ℕ) → AreFirst properties starts pages n → 0 < n
    → get_or pages (get_or starts (n - 1) 0) absent_word ≡ word_with properties ((n - 1) * 256)
word-last properties starts pages n w some =
    let start : get_or starts (n - 1) 0 ≡ get_or starts (n - 1) 0 + 0 = omega arith in
    let first : (n - 1) * 256 + 0 ≡ (n - 1) * 256 = omega arith in
    ap (λ k. get_or pages k absent_word) start ∙ w.words (n - 1) 0 (omega arith) (omega arith) ∙ ap (word_with properties) first

pub first-words : (properties : Properties) (words : Words) (n : ℕ) → AreFirst properties words.starts.items words.pages.items n → n ≡ 4352
    → (c : ℕ) → c < 0x110000 → word_in words c ≡ word_with properties c
first-words properties words n w all c h =
    w.words (c / 256) (c % 256) (omega arith) (mod_below c 256 (omega arith)) ∙ ap (word_with properties) (div-add-mod' c 256)
