-- UAX #14's rules LB4 to LB31, as one table. The first whose pattern holds decides.
use Rattle.std.specs.Prelude.{Bool, true, not, ◌&&◌, List, [], ◌∷◌, ◌++◌, if◌then◌else◌}
use Rattle.bg_types.specs.declared.class.Lb.{Lb}
use Rattle.bg_types.specs.declared.class.Lb.TheVariants.{Al, B2, Ba, Bb, Bk, Cb, Cl, Cp, Cr, Eb, Em, Ex, Gl, H2, H3, Hl, Hy, Id, In, Is, Jl, Jt, Jv, Lf, Nl, Ns, Nu, Op, Po, Pr, Qu, Ri, Sp, Sy, Wj, Zw, Zwj}
use Rattle.line_break.specs.declared.status.Break.{Break}
use Rattle.line_break.specs.declared.status.Break.TheVariants.{Must, May, No}
use Rattle.line_break.specs.Classes.{one_of}
use Rattle.line_break.specs.Items.{is_mark, takes_marks}
use Rattle.line_break.specs.Context.{Before, After}

-- a rule: what must stand before the boundary, what after it, and its status
pub record Rule : Type 0 where
  pub left : Before → Bool
  pub right : After → Bool
  pub status : Break

abbrev pub holds : Before → After → Rule → Bool
holds b a rule = rule.left b && rule.right a

-- the status by the first of these rules that holds, else this one
unfoldable pub first_rule : List Rule → Break → Before → After → Break
first_rule [] otherwise b a = otherwise
first_rule (rule ∷ rules) otherwise b a = if holds b a rule then rule.status else first_rule rules otherwise b a

infix 10 ◌!◌
infix 10 ◌✕◌
infix 10 ◌÷◌
-- must break, no break, may break: what stands left and right of the sign
abbrev pub ◌!◌ : (Before → Bool) → (After → Bool) → Rule
◌!◌ left right = record { left = left; right = right; status = Must }

abbrev pub ◌✕◌ : (Before → Bool) → (After → Bool) → Rule
◌✕◌ left right = record { left = left; right = right; status = No }

abbrev pub ◌÷◌ : (Before → Bool) → (After → Bool) → Rule
◌÷◌ left right = record { left = left; right = right; status = May }

abbrev pub any : {A : Type 0} → A → Bool
any x = true

-- left: the code point right before the boundary is of one of these classes
abbrev pub point : List Lb → Before → Bool
point classes b = one_of classes b.point

-- left: the item before it is
abbrev pub item : List Lb → Before → Bool
item classes b = one_of classes b.item

-- left: it isn't
abbrev pub no_item : List Lb → Before → Bool
no_item classes b = not (one_of classes b.item)

-- left: it is, and isn't East Asian F, W or H
abbrev pub narrow_item : List Lb → Before → Bool
narrow_item classes b = one_of classes b.item && not b.wide

-- left: an item of one of these classes, and SP*
abbrev pub spaced : List Lb → Before → Bool
spaced classes b = one_of classes b.spaced

-- left: an item to which a mark belongs
abbrev pub base : Before → Bool
base b = takes_marks b.item

-- left: HL (HY, BA)
abbrev pub hebrew_hyphen : Before → Bool
hebrew_hyphen b = b.hebrew_hyphen

-- left: an odd number of RI items side by side
abbrev pub odd_regional : Before → Bool
odd_regional b = b.odd_regional

-- right: the code point after the boundary is of one of these classes
abbrev pub next_point : List Lb → After → Bool
next_point classes a = one_of classes a.point

-- right: it is a mark
abbrev pub mark : After → Bool
mark a = is_mark a.point

-- right: the item that it begins is of one of these classes
abbrev pub next : List Lb → After → Bool
next classes a = one_of classes a.item

-- right: it is, and isn't East Asian F, W or H
abbrev pub narrow_next : List Lb → After → Bool
narrow_next classes a = one_of classes a.item && not a.wide

-- mandatory breaks
unfoldable pub mandatory : List Rule
mandatory =
    -- LB4
    (point (Bk ∷ []) ! any) ∷
    -- LB5
    (point (Cr ∷ []) ✕ next_point (Lf ∷ [])) ∷
    (point (Cr ∷ Lf ∷ Nl ∷ []) ! any) ∷
    -- LB6
    (any ✕ next_point (Bk ∷ Cr ∷ Lf ∷ Nl ∷ [])) ∷
    []

-- explicit breaks and non-breaks, combining marks
unfoldable pub explicit : List Rule
explicit =
    -- LB7
    (any ✕ next_point (Sp ∷ Zw ∷ [])) ∷
    -- LB8
    (spaced (Zw ∷ []) ÷ any) ∷
    -- LB8a
    (point (Zwj ∷ []) ✕ any) ∷
    -- LB9
    (base ✕ mark) ∷
    []

-- word joiner, non-breaking characters
unfoldable pub joiners : List Rule
joiners =
    -- LB11
    (any ✕ next (Wj ∷ [])) ∷
    (item (Wj ∷ []) ✕ any) ∷
    -- LB12
    (item (Gl ∷ []) ✕ any) ∷
    -- LB12a
    (no_item (Sp ∷ Ba ∷ Hy ∷ []) ✕ next (Gl ∷ [])) ∷
    []

-- opening and closing
unfoldable pub enclosing : List Rule
enclosing =
    -- LB13
    (any ✕ next (Cl ∷ Cp ∷ Ex ∷ Is ∷ Sy ∷ [])) ∷
    -- LB14
    (spaced (Op ∷ []) ✕ any) ∷
    -- LB15
    (spaced (Qu ∷ []) ✕ next (Op ∷ [])) ∷
    -- LB16
    (spaced (Cl ∷ Cp ∷ []) ✕ next (Ns ∷ [])) ∷
    -- LB17
    (spaced (B2 ∷ []) ✕ next (B2 ∷ [])) ∷
    []

-- spaces
unfoldable pub spaces : List Rule
spaces =
    -- LB18
    (item (Sp ∷ []) ÷ any) ∷
    []

-- quotation marks
unfoldable pub quotations : List Rule
quotations =
    -- LB19
    (any ✕ next (Qu ∷ [])) ∷
    (item (Qu ∷ []) ✕ any) ∷
    []

-- contingent breaks
unfoldable pub contingent : List Rule
contingent =
    -- LB20
    (any ÷ next (Cb ∷ [])) ∷
    (item (Cb ∷ []) ÷ any) ∷
    []

-- hyphens and leaders
unfoldable pub hyphens : List Rule
hyphens =
    -- LB21
    (any ✕ next (Ba ∷ Hy ∷ Ns ∷ [])) ∷
    (item (Bb ∷ []) ✕ any) ∷
    -- LB21a
    (hebrew_hyphen ✕ any) ∷
    -- LB21b
    (item (Sy ∷ []) ✕ next (Hl ∷ [])) ∷
    -- LB22
    (any ✕ next (In ∷ [])) ∷
    []

-- letters with numbers, ideographs with prefixes and postfixes
unfoldable pub ideographs : List Rule
ideographs =
    -- LB23
    (item (Al ∷ Hl ∷ []) ✕ next (Nu ∷ [])) ∷
    (item (Nu ∷ []) ✕ next (Al ∷ Hl ∷ [])) ∷
    -- LB23a
    (item (Pr ∷ []) ✕ next (Id ∷ Eb ∷ Em ∷ [])) ∷
    (item (Id ∷ Eb ∷ Em ∷ []) ✕ next (Po ∷ [])) ∷
    []

-- prefixes, postfixes and numbers
unfoldable pub numbers : List Rule
numbers =
    -- LB24
    (item (Pr ∷ Po ∷ []) ✕ next (Al ∷ Hl ∷ [])) ∷
    (item (Al ∷ Hl ∷ []) ✕ next (Pr ∷ Po ∷ [])) ∷
    -- LB25: CL × PO, CP × PO, CL × PR, CP × PR, NU × PO, NU × PR
    (item (Cl ∷ Cp ∷ Nu ∷ []) ✕ next (Po ∷ Pr ∷ [])) ∷
    -- PO × OP, PO × NU, PR × OP, PR × NU
    (item (Po ∷ Pr ∷ []) ✕ next (Op ∷ Nu ∷ [])) ∷
    -- HY × NU, IS × NU, NU × NU, SY × NU
    (item (Hy ∷ Is ∷ Nu ∷ Sy ∷ []) ✕ next (Nu ∷ [])) ∷
    []

-- Korean syllable blocks
unfoldable pub syllables : List Rule
syllables =
    -- LB26
    (item (Jl ∷ []) ✕ next (Jl ∷ Jv ∷ H2 ∷ H3 ∷ [])) ∷
    (item (Jv ∷ H2 ∷ []) ✕ next (Jv ∷ Jt ∷ [])) ∷
    (item (Jt ∷ H3 ∷ []) ✕ next (Jt ∷ [])) ∷
    -- LB27
    (item (Jl ∷ Jv ∷ Jt ∷ H2 ∷ H3 ∷ []) ✕ next (Po ∷ [])) ∷
    (item (Pr ∷ []) ✕ next (Jl ∷ Jv ∷ Jt ∷ H2 ∷ H3 ∷ [])) ∷
    []

-- letters
unfoldable pub letters : List Rule
letters =
    -- LB28
    (item (Al ∷ Hl ∷ []) ✕ next (Al ∷ Hl ∷ [])) ∷
    -- LB29
    (item (Is ∷ []) ✕ next (Al ∷ Hl ∷ [])) ∷
    []

-- parentheses
unfoldable pub parentheses : List Rule
parentheses =
    -- LB30
    (item (Al ∷ Hl ∷ Nu ∷ []) ✕ narrow_next (Op ∷ [])) ∷
    (narrow_item (Cp ∷ []) ✕ next (Al ∷ Hl ∷ Nu ∷ [])) ∷
    []

-- pairs of regional indicators and of emoji
unfoldable pub pairs : List Rule
pairs =
    -- LB30a
    (odd_regional ✕ next (Ri ∷ [])) ∷
    -- LB30b
    (item (Eb ∷ []) ✕ next (Em ∷ [])) ∷
    []

-- LB4 to LB9
unfoldable pub point_rules : List Rule
point_rules = mandatory ++ explicit

-- LB23 to LB30b
unfoldable pub late_rules : List Rule
late_rules = ideographs ++ (numbers ++ (syllables ++ (letters ++ (parentheses ++ pairs))))

-- LB11 to LB30b
unfoldable pub item_rules : List Rule
item_rules = joiners ++ (enclosing ++ (spaces ++ (quotations ++ (contingent ++ (hyphens ++ late_rules)))))

-- the table, in the standard's order; where none holds, LB31 allows a break
unfoldable pub rules : List Rule
rules = point_rules ++ item_rules
