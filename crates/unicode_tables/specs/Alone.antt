-- A code point by itself, as a cluster.
use Rattle.std.specs.Prelude.{ℕ, Bool, ◌==◌, ◌&&◌, ◌||◌, not, nat_le, nat_lt, if◌then◌else◌}
use Rattle.bg_types.specs.declared.class.Bidi.{Bidi}
use Rattle.bg_types.specs.declared.class.Lb.{Lb}
use Rattle.bg_types.specs.declared.class.Ea.{Ea}
use Rattle.unicode_tables.specs.Classes.{is_separator, is_removed, is_isolate_control, is_line_end, is_wide}

-- c stands between these two, both included
abbrev pub is_between : ℕ → ℕ → ℕ → Bool
is_between first last c = nat_le first c && nat_le c last

-- the blocks without marks in which most text of Latin, Greek, Cyrillic, Hebrew and Arabic stands
abbrev pub is_plain : ℕ → Bool
is_plain c =
    is_between 0x20 0x7E c || (is_between 0x5D0 0x5EA c || (is_between 0x620 0x64A c || (is_between 0xAE 0x2FF c || (is_between 0x370 0x482 c || is_between 0x671 0x6D5 c))))

-- the marks of direction, which are named by their code points: LRM, RLM and ALM
abbrev pub is_direction_mark : ℕ → Bool
is_direction_mark c = c == 0x200E || c == 0x200F || c == 0x61C

-- no code point of this block of 256 is plain or a mark of direction: its properties say all of its word
abbrev pub is_by_properties : ℕ → Bool
is_by_properties block = nat_lt 6 block && not (block == 32)

-- a code point of these classes has no columns
abbrev pub is_unseen : Bidi → Lb → ℕ → Bool
is_unseen bidi lb c = (is_separator bidi || is_line_end lb) || (is_removed bidi || is_isolate_control bidi || is_direction_mark c)

-- the columns of c alone, where ambiguous code points are narrow
abbrev pub columns_alone : Bidi → Lb → Ea → ℕ → ℕ
columns_alone bidi lb ea c = if is_unseen bidi lb c then 0 else (if is_wide ea then 2 else 1)
