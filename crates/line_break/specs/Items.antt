-- The items of a text: a base with the marks that belong to it (UAX #14, LB9 and LB10).
use Rattle.std.specs.Prelude.{ℕ, Bool, not, List, [], ◌∷◌, fold, if◌then◌else◌}
use Rattle.bg_types.specs.declared.class.Lb.{Lb}
use Rattle.bg_types.specs.declared.class.Lb.TheVariants.{Al, Bk, Cm, Cr, Lf, Nl, Sp, Zw, Zwj}
use Rattle.unicode_tables.specs.Tables.{TableValues}
use Rattle.unicode_tables.specs.Word.{word_of}
use Rattle.unicode_tables.specs.declared.word.Word.{Word}
use Rattle.line_break.specs.Classes.{one_of, resolved, is_east_asian}

-- a code point, or a base with its marks: its class or its base's, and whether it is East Asian F, W or H
pub record Item : Type 0 where
  pub class : Lb
  pub wide : Bool

-- a code point: its class by LB1
abbrev pub point_of_word : Word → Item
point_of_word word = record { class = resolved word.bidi word.lb; wide = is_east_asian word.ea }

abbrev pub point_of : TableValues → ℕ → Item
point_of tables c = point_of_word (word_of tables c)

-- a mark
abbrev pub is_mark : Lb → Bool
is_mark class = one_of (Cm ∷ Zwj ∷ []) class

-- LB9: marks belong to an item of this class
abbrev pub takes_marks : Lb → Bool
takes_marks class = not (one_of (Bk ∷ Cr ∷ Lf ∷ Nl ∷ Sp ∷ Zw ∷ []) class)

-- LB10: a mark that belongs to no item begins one of class AL
abbrev pub as_base : Item → Item
as_base p = if is_mark p.class then record p { class = Al } else p

-- LB9 and LB10: a mark after these items, the nearest first
abbrev pub with_mark : List Item → Item → List Item
with_mark [] p = as_base p ∷ []
with_mark (i ∷ items) p = if takes_marks i.class then i ∷ items else as_base p ∷ i ∷ items

-- one more code point after these items
abbrev pub with_point : List Item → Item → List Item
with_point items p = if is_mark p.class then with_mark items p else as_base p ∷ items

-- the items of these code points, the last one first; an item has its base's class and width
unfoldable pub items : List Item → List Item
items points = fold with_point [] points
