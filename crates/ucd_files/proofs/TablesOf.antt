-- Tables of five lists that have at each code point what files give it.
use Rattle.std.proofs.Common.{◌≡◌, ℕ, ◌<◌, Bool, List, get_or, Option, None}
use Rattle.bg_types.specs.declared.class.Bidi.{Bidi}
use Rattle.bg_types.specs.declared.class.Bidi.TheVariants.{L}
use Rattle.bg_types.specs.declared.class.Lb.{Lb}
use Rattle.bg_types.specs.declared.class.Lb.TheVariants.{Xx}
use Rattle.bg_types.specs.declared.class.Ea.{Ea}
use Rattle.bg_types.specs.declared.class.Ea.TheVariants.{N}
use Rattle.unicode_tables.specs.declared.bracket.Bracket.{Bracket}
use Rattle.unicode_tables.specs.declared.bracket.Bracket.TheVariants.{None as no_bracket}
use Rattle.unicode_tables.specs.Tables.{TableValues, tables_of_lists}
use Rattle.unicode_tables.proofs.Interface.{each_below-same}
use Rattle.ucd_files.specs.Reading.{value_at}
use Rattle.ucd_files.specs.Files.{bidi_file, brackets_file, mirror_file, lb_file, ea_file}
use Rattle.ucd_files.specs.Ucd.{tables_of}

same_tables : {b b' : List Bidi} {k k' : List Bracket} {m m' : List (Option ℕ)} {l l' : List Lb} {e e' : List Ea} {wide : Bool}
    → b ≡ b' → k ≡ k' → m ≡ m' → l ≡ l' → e ≡ e'
    → ◌≡◌ {A = TableValues} (record { bidi = b; bracket = k; mirror = m; lb = l; ea = e; wide_ambiguous = wide }) (record { bidi = b'; bracket = k'; mirror = m'; lb = l'; ea = e'; wide_ambiguous = wide })
same_tables p q r s t = cc

-- five lists that have at each code point the values of five files are the tables of these files
pub tables_of_lists-read : (bidi brackets mirror lb ea : List ℕ) (b : List Bidi) (k : List Bracket) (m : List (Option ℕ)) (l : List Lb) (e : List Ea)
    → ((c : ℕ) → c < 0x110000 → get_or b c bidi_file.absent ≡ value_at bidi_file bidi c)
    → ((c : ℕ) → c < 0x110000 → get_or k c brackets_file.absent ≡ value_at brackets_file brackets c)
    → ((c : ℕ) → c < 0x110000 → get_or m c mirror_file.absent ≡ value_at mirror_file mirror c)
    → ((c : ℕ) → c < 0x110000 → get_or l c lb_file.absent ≡ value_at lb_file lb c)
    → ((c : ℕ) → c < 0x110000 → get_or e c ea_file.absent ≡ value_at ea_file ea c)
    → tables_of_lists b k m l e ≡ tables_of bidi brackets mirror lb ea
unfolding bidi_file brackets_file mirror_file lb_file ea_file
tables_of_lists-read bidi brackets mirror lb ea b k m l e p q r s t = same_tables
    (each_below-same 0x110000 _ _ L p)
    (each_below-same 0x110000 _ _ no_bracket q)
    (each_below-same 0x110000 _ _ None r)
    (each_below-same 0x110000 _ _ Xx s)
    (each_below-same 0x110000 _ _ N t)
