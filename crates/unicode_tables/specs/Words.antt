-- The words of all code points, in pages.
use Rattle.std.specs.Prelude.{◌≡◌, ℕ, ◌+◌, ◌/◌, ◌%◌, ◌<◌, ◌≤◌, false, List, length, Option, None, is_some, slice_index_or}
use Rattle.unicode_tables.specs.declared.bracket.Bracket.{Bracket}
use Rattle.unicode_tables.specs.declared.bracket.Bracket.TheVariants.{None as no_bracket}
use Rattle.unicode_tables.specs.declared.word.Word.{Word}
use Rattle.unicode_tables.specs.declared.words.Words.{Words}
use Rattle.unicode_tables.specs.Tables.{TableValues, each_code_point}
use Rattle.unicode_tables.specs.Classes.{is_space}
use Rattle.unicode_tables.specs.Alone.{is_plain, columns_alone}
use Rattle.unicode_tables.specs.Word.{is_bracket, absent_word}

-- the word at c: that of its place in the page of its block
abbrev pub word_in : Words → ℕ → Word
word_in words c = slice_index_or words.pages.items (slice_index_or words.starts.items (c / 256) 0 + c % 256) absent_word

-- each block has a page
pub record IsWordTable (words : Words) : Type 0 where
  pub blocks : length words.starts.items ≡ 4352
  pub pages : (b : ℕ) → b < 4352 → slice_index_or words.starts.items b 0 + 256 ≤ length words.pages.items

-- the words say where there are brackets and mirrors, and what follows for each code point by itself
pub record HasMarks (words : Words) (bracket : List Bracket) (mirror : List (Option ℕ)) : Type 0 where
  pub brackets : (c : ℕ) → c < 0x110000 → (word_in words c).is_bracket ≡ is_bracket (slice_index_or bracket c no_bracket)
  pub mirrors : (c : ℕ) → c < 0x110000 → (word_in words c).has_mirror ≡ is_some (slice_index_or mirror c None)
  pub plain : (c : ℕ) → c < 0x110000 → (word_in words c).is_plain ≡ is_plain c
  pub columns : (c : ℕ) → c < 0x110000 → (word_in words c).columns ≡ columns_alone (word_in words c).bidi (word_in words c).lb (word_in words c).ea c
  pub spaces : (c : ℕ) → c < 0x110000 → (word_in words c).is_space ≡ is_space (word_in words c).lb

-- the tables of words, brackets and mirrors. Ambiguous characters are narrow
abbrev pub tables_of_words : Words → List Bracket → List (Option ℕ) → TableValues
tables_of_words words bracket mirror = record {
  bidi = each_code_point (λ c. (word_in words c).bidi);
  bracket = each_code_point (λ c. slice_index_or bracket c no_bracket);
  mirror = each_code_point (λ c. slice_index_or mirror c None);
  lb = each_code_point (λ c. (word_in words c).lb);
  ea = each_code_point (λ c. (word_in words c).ea);
  wide_ambiguous = false;
}
