-- What the tables say of a code point, in one word.
use Rattle.std.specs.Prelude.{ℕ, Bool, true, false, List, Option, None, is_some, slice_index_or}
use Rattle.bg_types.specs.declared.class.Bidi.{Bidi}
use Rattle.bg_types.specs.declared.class.Bidi.TheVariants.{L}
use Rattle.bg_types.specs.declared.class.Lb.{Lb}
use Rattle.bg_types.specs.declared.class.Lb.TheVariants.{Xx}
use Rattle.bg_types.specs.declared.class.Ea.{Ea}
use Rattle.bg_types.specs.declared.class.Ea.TheVariants.{N}
use Rattle.unicode_tables.specs.declared.bracket.Bracket.{Bracket}
use Rattle.unicode_tables.specs.declared.bracket.Bracket.TheVariants.{None as no_bracket, Open, Close}
use Rattle.unicode_tables.specs.declared.word.Word.{Word}
use Rattle.unicode_tables.specs.declared.word.Properties.{Properties}
use Rattle.unicode_tables.specs.Tables.{TableValues}
use Rattle.unicode_tables.specs.Classes.{is_space}
use Rattle.unicode_tables.specs.Alone.{is_plain, columns_alone}

-- BD14 and BD15
abbrev pub is_bracket : Bracket → Bool
is_bracket no_bracket = false
is_bracket (Open paired) = true
is_bracket (Close paired) = true

-- the word of what is no code point
abbrev pub absent_word : Word
absent_word = record { bidi = L; lb = Xx; ea = N; is_bracket = false; has_mirror = false; is_plain = false; columns = 1; is_space = false }

-- the word at c, of lists of the five properties
abbrev pub word_of_lists : List Bidi → List Bracket → List (Option ℕ) → List Lb → List Ea → ℕ → Word
word_of_lists bidi bracket mirror lb ea c = record {
  bidi = slice_index_or bidi c L;
  lb = slice_index_or lb c Xx;
  ea = slice_index_or ea c N;
  is_bracket = is_bracket (slice_index_or bracket c no_bracket);
  has_mirror = is_some (slice_index_or mirror c None);
  is_plain = is_plain c;
  columns = columns_alone (slice_index_or bidi c L) (slice_index_or lb c Xx) (slice_index_or ea c N) c;
  is_space = is_space (slice_index_or lb c Xx);
}

-- what tables say of c
abbrev pub word_of : TableValues → ℕ → Word
word_of tables c = word_of_lists tables.bidi tables.bracket tables.mirror tables.lb tables.ea c

-- the word at c, of the five properties
abbrev pub word_with : Properties → ℕ → Word
word_with properties c =
    word_of_lists properties.bidi.now properties.bracket.now properties.mirror.now properties.lb.now properties.ea.now c
