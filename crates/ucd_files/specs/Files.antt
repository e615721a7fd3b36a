-- How the lines of each of the five files are read.
use Rattle.std.specs.Prelude.{ℕ, ◌++◌, List, Option, None}
use Rattle.bg_types.specs.declared.class.Bidi.{Bidi}
use Rattle.bg_types.specs.declared.class.Bidi.TheVariants.{L}
use Rattle.bg_types.specs.declared.class.Lb.{Lb}
use Rattle.bg_types.specs.declared.class.Lb.TheVariants.{Xx}
use Rattle.bg_types.specs.declared.class.Ea.{Ea}
use Rattle.bg_types.specs.declared.class.Ea.TheVariants.{N}
use Rattle.unicode_tables.specs.declared.bracket.Bracket.{Bracket}
use Rattle.unicode_tables.specs.declared.bracket.Bracket.TheVariants.{None as no_bracket}
use Rattle.ucd_files.specs.Reading.{Reading}
use Rattle.ucd_files.specs.Fields.{property_fields, bracket_fields, mirror_fields, property_missing}
use Rattle.ucd_files.specs.Names.{named}
use Rattle.ucd_files.specs.BidiNames.{bidi_names, bidi_long_names}
use Rattle.ucd_files.specs.LbNames.{lb_names, lb_long_names}
use Rattle.ucd_files.specs.EaNames.{ea_names, ea_long_names}
use Rattle.ucd_files.specs.BracketKind.{bracket_kind}

abbrev pub property_file : {V : Type 0} → List (List ℕ × V) → List (List ℕ × V) → V → Reading V
property_file names long_names absent = record {
  fields = property_fields (named names);
  missing = property_missing (named (names ++ long_names));
  absent = absent;
}

-- DerivedBidiClass.txt: a code point that it doesn't name is L
unfoldable pub bidi_file : Reading Bidi
bidi_file = property_file bidi_names bidi_long_names L

-- LineBreak.txt: such a code point is XX
unfoldable pub lb_file : Reading Lb
lb_file = property_file lb_names lb_long_names Xx

-- EastAsianWidth.txt: such a code point is N
unfoldable pub ea_file : Reading Ea
ea_file = property_file ea_names ea_long_names N

-- BidiBrackets.txt: such a code point is no bracket. It has no defaults
unfoldable pub brackets_file : Reading Bracket
brackets_file = record { fields = bracket_fields bracket_kind; missing = (λ _. None); absent = no_bracket }

-- BidiMirroring.txt: such a code point has no mirror. It has no defaults
unfoldable pub mirror_file : Reading (Option ℕ)
mirror_file = record { fields = mirror_fields; missing = (λ _. None); absent = None }
