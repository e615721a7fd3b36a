-- The states of the break rules: what stands before a boundary, as far as the rules distinguish it; and what follows it.
use Rattle.std.specs.Prelude.{◌≡◌, ℕ, ◌<◌, false, true, ◌&&◌, List, [], ◌∷◌, ◌++◌, map, slice_index_or, if◌then◌else◌}
use Rattle.bg_types.specs.declared.class.Bidi.TheVariants.{L}
use Rattle.bg_types.specs.declared.class.Lb.{Lb}
use Rattle.bg_types.specs.declared.class.Lb.TheVariants.{Ai, Al, B2, Ba, Bb, Bk, Cb, Cj, Cl, Cm, Cp, Cr, Eb, Em, Ex, Gl, H2, H3, Hl, Hy, Id, In, Is, Jl, Jt, Jv, Lf, Nl, Ns, Nu, Op, Po, Pr, Qu, Ri, Sa, Sg, Sp, Sy, Wj, Xx, Zw, Zwj}
use Rattle.line_break.specs.Classes.{one_of, resolved}
use Rattle.line_break.specs.Items.{Item}
use Rattle.line_break.specs.Context.{Before, before}

-- what stands before a boundary, as far as the rules distinguish it. Right before it LB4 to LB6 and LB8a ask for some classes
-- alone, before any number of spaces LB8 and LB14 to LB17 do: SP stands for all others. Of widths LB30 asks for that of CP
unfoldable pub reduced : Before → Before
reduced b = record b {
  point = if one_of (Bk ∷ Cr ∷ Lf ∷ Nl ∷ Zwj ∷ []) b.point then b.point else Sp;
  wide = one_of (Cp ∷ []) b.item && b.wide;
  spaced = if one_of (B2 ∷ Cl ∷ Cp ∷ Op ∷ Qu ∷ Zw ∷ []) b.spaced then b.spaced else Sp;
}

-- a code point, as far as the rules distinguish it: LB30 asks for the width of CP and OP alone
abbrev pub reduced_point : Item → Item
reduced_point p = record { class = p.class; wide = one_of (Cp ∷ Op ∷ []) p.class && p.wide }

-- a code point of this class that is narrow, and one that is wide
abbrev pub narrow : Lb → Item
narrow class = record { class = class; wide = false }

abbrev pub wide : Lb → Item
wide class = record { class = class; wide = true }

-- texts that end in an item to which marks belong
unfoldable pub marked : List (List Item)
marked =
    map (λ class. narrow class ∷ []) (Al ∷ B2 ∷ Ba ∷ Bb ∷ Cb ∷ Cl ∷ Cp ∷ Eb ∷ Em ∷ Ex ∷ Gl ∷ H2 ∷ H3 ∷ Hl ∷ Hy ∷ Id ∷ In ∷ Is ∷ Jl ∷ Jt ∷ Jv ∷ Ns ∷ Nu ∷ Op ∷ Po ∷ Pr ∷ Qu ∷ Ri ∷ Sy ∷ Wj ∷ [])
    ++ (wide Cp ∷ []) ∷ (narrow Ri ∷ narrow Ri ∷ []) ∷ (narrow Hl ∷ narrow Ba ∷ []) ∷ (narrow Hl ∷ narrow Hy ∷ []) ∷ []

-- the states, each as a text that ends in it: spaces alone, spaces behind what a rule seeks there, the ends of lines and ZW,
-- and each of those above, without ZWJ and with one
unfoldable pub texts : List (List Item)
texts =
    [] ∷ (map (λ class. narrow class ∷ narrow Sp ∷ []) (B2 ∷ Cl ∷ Cp ∷ Op ∷ Qu ∷ Zw ∷ [])
    ++ (map (λ class. narrow class ∷ []) (Bk ∷ Cr ∷ Lf ∷ Nl ∷ Zw ∷ [])
    ++ (marked ++ map (λ text. text ++ narrow Zwj ∷ []) marked)))

-- the columns of the table: a code point of each class of the data file, by LB1, and then the wide ones of CP and OP
unfoldable pub columns : List Item
columns =
    map (λ class. narrow (resolved L class)) (Ai ∷ Al ∷ B2 ∷ Ba ∷ Bb ∷ Bk ∷ Cb ∷ Cj ∷ Cl ∷ Cm ∷ Cp ∷ Cr ∷ Eb ∷ Em ∷ Ex ∷ Gl ∷ H2 ∷ H3 ∷ Hl ∷ Hy ∷ Id ∷ In ∷ Is ∷ Jl ∷ Jt ∷ Jv ∷ Lf ∷ Nl ∷ Ns ∷ Nu ∷ Op ∷ Po ∷ Pr ∷ Qu ∷ Ri ∷ Sa ∷ Sg ∷ Sp ∷ Sy ∷ Wj ∷ Xx ∷ Zw ∷ Zwj ∷ [])
    ++ wide Cp ∷ wide Op ∷ []

-- the state of this number is what stands before the boundary behind these code points
pub record IsBehind (front : List Item) (state : ℕ) : Type 0 where
  pub within : state < 80
  pub same : reduced (before (slice_index_or texts state [])) ≡ reduced (before front)

-- the column of this number is that of this code point
pub record IsColumn (p : Item) (column : ℕ) : Type 0 where
  pub within : column < 45
  pub same : slice_index_or columns column (narrow Sp) ≡ reduced_point p
