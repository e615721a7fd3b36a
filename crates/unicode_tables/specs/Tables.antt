-- What tables answer at each code point.
use Rattle.std.specs.Prelude.{ℕ, Bool, false, List, map, Option, None, slice_index_or}
use Rattle.std.specs.List.{range_with_len}
use Rattle.bg_types.specs.declared.class.Bidi.{Bidi}
use Rattle.bg_types.specs.declared.class.Bidi.TheVariants.{L}
use Rattle.bg_types.specs.declared.class.Lb.{Lb}
use Rattle.bg_types.specs.declared.class.Lb.TheVariants.{Xx}
use Rattle.bg_types.specs.declared.class.Ea.{Ea}
use Rattle.bg_types.specs.declared.class.Ea.TheVariants.{N}
use Rattle.unicode_tables.specs.declared.bracket.Bracket.{Bracket}
use Rattle.unicode_tables.specs.declared.bracket.Bracket.TheVariants.{None as no_bracket}

-- the values at 0 and on, below n
unfoldable pub each_below : {V : Type 0} → ℕ → (ℕ → V) → List V
each_below n value = map value (range_with_len 0 n)

-- the values at all code points, from 0 to 10FFFF
abbrev pub each_code_point : {V : Type 0} → (ℕ → V) → List V
each_code_point value = each_below 0x110000 value

-- what tables answer: a value for each code point, and whether characters of ambiguous width are wide (UAX #11, 5)
pub record TableValues : Type 0 where
  pub bidi : List Bidi
  pub bracket : List Bracket
  pub mirror : List (Option ℕ)
  pub lb : List Lb
  pub ea : List Ea
  pub wide_ambiguous : Bool

abbrev pub bidi_of : TableValues → ℕ → Bidi
bidi_of tables c = slice_index_or tables.bidi c L

abbrev pub bracket_of : TableValues → ℕ → Bracket
bracket_of tables c = slice_index_or tables.bracket c no_bracket

abbrev pub mirror_of : TableValues → ℕ → Option ℕ
mirror_of tables c = slice_index_or tables.mirror c None

abbrev pub lb_of : TableValues → ℕ → Lb
lb_of tables c = slice_index_or tables.lb c Xx

abbrev pub ea_of : TableValues → ℕ → Ea
ea_of tables c = slice_index_or tables.ea c N

-- the tables of five lists: at each code point the element with its number, after a list's end the default, and ambiguous
-- characters narrow
abbrev pub tables_of_lists : List Bidi → List Bracket → List (Option ℕ) → List Lb → List Ea → TableValues
tables_of_lists bidi bracket mirror lb ea = record {
  bidi = each_code_point (λ c. slice_index_or bidi c L);
  bracket = each_code_point (λ c. slice_index_or bracket c no_bracket);
  mirror = each_code_point (λ c. slice_index_or mirror c None);
  lb = each_code_point (λ c. slice_index_or lb c Xx);
  ea = each_code_point (λ c. slice_index_or ea c N);
  wide_ambiguous = false;
}

-- the same tables with this choice for ambiguous characters
abbrev pub with_width : TableValues → Bool → TableValues
with_width tables wide = record tables { wide_ambiguous = wide }
