-- What the rules may ask of the text before a boundary, and of what follows it.
use Rattle.std.specs.Prelude.{Bool, false, not, ◌&&◌, List, [], ◌∷◌, fold, if◌then◌else◌}
use Rattle.bg_types.specs.declared.class.Lb.{Lb}
use Rattle.bg_types.specs.declared.class.Lb.TheVariants.{Ba, Hl, Hy, Ri, Sp}
use Rattle.line_break.specs.Classes.{one_of}
use Rattle.line_break.specs.Items.{Item, as_base, items}

-- what stands before a boundary: the class of the code point right before it; the class of the item before it, and whether
-- that is East Asian F, W or H; the class of the item before any number of spaces; whether an odd number of RI items in a
-- row ends there; whether HL and then HY or BA stand right before it
pub record Before : Type 0 where
  pub point : Lb
  pub item : Lb
  pub wide : Bool
  pub spaced : Lb
  pub odd_regional : Bool
  pub hebrew_hyphen : Bool

-- what follows it: the class of the code point right after it; the class of the item that this code point begins if it
-- belongs to none, and whether that is East Asian F, W or H
pub record After : Type 0 where
  pub point : Lb
  pub item : Lb
  pub wide : Bool

-- the class of the first item, or SP where there is none: no rule that looks past an item asks for SP
abbrev pub class_of : List Item → Lb
class_of [] = Sp
class_of (i ∷ items) = i.class

abbrev pub is_wide : List Item → Bool
is_wide [] = false
is_wide (i ∷ items) = i.wide

-- SP*: the items, the nearest first, that stand before any number of spaces
abbrev pub without_spaces : List Item → List Item
without_spaces [] = []
without_spaces (i ∷ items) = if one_of (Sp ∷ []) i.class then without_spaces items else i ∷ items

-- an odd number of RI items side by side is nearest
abbrev pub odd_regional : List Item → Bool
odd_regional [] = false
odd_regional (i ∷ items) = if one_of (Ri ∷ []) i.class then not (odd_regional items) else false

-- HY or BA stands nearest, and HL before it
abbrev pub hebrew_hyphen : List Item → Bool
hebrew_hyphen [] = false
hebrew_hyphen (i ∷ items) = one_of (Hy ∷ Ba ∷ []) i.class && one_of (Hl ∷ []) (class_of items)

-- the last of these code points
abbrev pub last_point : List Item → List Item
last_point points = fold (λ _ p. p ∷ []) [] points

-- what stands before a boundary: by its last code point, and by its items, the nearest first
abbrev pub before_by : Lb → List Item → Before
before_by point items = record {
  point = point;
  item = class_of items;
  wide = is_wide items;
  spaced = class_of (without_spaces items);
  odd_regional = odd_regional items;
  hebrew_hyphen = hebrew_hyphen items;
}

-- what stands before a boundary after these code points
unfoldable pub before : List Item → Before
before points = before_by (class_of (last_point points)) (items points)

-- what follows a boundary: a code point, and the item that it begins where it belongs to none
abbrev pub after : Item → After
after p = record { point = p.class; item = (as_base p).class; wide = p.wide }
