-- How a choice of the profile of line breaking explains breaks that differ from those of the test file.
use Rattle.std.specs.Prelude.{◌≡◌, ℕ, Bool, true, false, not, ◌+◌, ◌&&◌, ◌||◌, List, [], ◌∷◌, length, take, drop, reverse, slice_index_or, EachIndex, Option, Some, None, if◌then◌else◌}
use Rattle.bg_types.specs.declared.class.Lb.{Lb}
use Rattle.bg_types.specs.declared.class.Lb.TheVariants.{Cl, Cp, Eb, Em, Hy, Is, Nu, Op, Po, Pr, Sy}
use Rattle.ucd_files.specs.Tables.{TableValues, lb_of}
use Rattle.ucd_emoji.specs.Binary.{is_extended_pictographic}
use Rattle.line_break.specs.Classes.{one_of}
use Rattle.line_break.specs.Items.{is_mark, takes_marks}
use Rattle.conformance.specs.Pairs.{is_pair}
use Rattle.conformance.specs.declared.choice.Item.{Item}
use Rattle.conformance.specs.declared.tally.Choice.{Choice}
use Rattle.conformance.specs.declared.tally.Choice.TheVariants.{Pairs, Pictographs}

-- LB9: whether a code point of this class belongs to the item of the one before it, where there is one
abbrev pub joins : Option Lb → Lb → Bool
joins None class = false
joins (Some last) class = is_mark class && takes_marks last

-- LB9: the items of code points after one of this class, each by its first code point
abbrev pub items_behind : TableValues → Option Lb → List ℕ → List Item
items_behind tables last [] = []
items_behind tables last (c ∷ later) =
    if joins last (lb_of tables c) then items_behind tables (Some (lb_of tables c)) later
    else record { first = c; class = lb_of tables c } ∷ items_behind tables (Some (lb_of tables c)) later

-- the items of a text's code points
abbrev pub items_of : TableValues → List ℕ → List Item
items_of tables points = items_behind tables None points

-- the first of these items is of one of these classes
abbrev pub begins : List Lb → List Item → Bool
begins classes [] = false
begins classes (i ∷ items) = one_of classes i.class

-- NU (NU | SY | IS)* ends here: these are the items before, the nearest first
abbrev pub ends_digits : List Item → Bool
ends_digits [] = false
ends_digits (i ∷ items) = one_of (Nu ∷ []) i.class || (one_of (Sy ∷ Is ∷ []) i.class && ends_digits items)

-- no break, by the rules for numbers that the test file has in place of LB25 (UAX #14, 8.2, example 7): the items before, the nearest first, and those after it
abbrev pub in_number : List Item → List Item → Bool
in_number before after =
    -- (PR | PO) × (OP | HY)? NU
    (begins (Pr ∷ Po ∷ []) before && (begins (Nu ∷ []) after || (begins (Op ∷ Hy ∷ []) after && begins (Nu ∷ []) (drop 1 after))))
    -- (OP | HY) × NU
    || (begins (Op ∷ Hy ∷ []) before && begins (Nu ∷ []) after)
    -- NU (NU | SY | IS)* × (NU | SY | IS | CL | CP)
    || (ends_digits before && begins (Nu ∷ Sy ∷ Is ∷ Cl ∷ Cp ∷ []) after)
    -- NU (NU | SY | IS)* (CL | CP)? × (PO | PR)
    || ((ends_digits before || (begins (Cl ∷ Cp ∷ []) before && ends_digits (drop 1 before))) && begins (Po ∷ Pr ∷ []) after)

-- no break, by LB25 of the profile
abbrev pub by_pair : List Item → List Item → Bool
by_pair [] after = false
by_pair (i ∷ before) [] = false
by_pair (i ∷ before) (j ∷ after) = is_pair i.class j.class

-- an extended pictograph that is no EB stands nearest
abbrev pub is_pictograph : List Item → Bool
is_pictograph [] = false
is_pictograph (i ∷ before) = is_extended_pictographic i.first && not (one_of (Eb ∷ []) i.class)

-- the choice makes the difference between a break that is wanted and none, or the other way round
abbrev pub makes : Choice → List Item → List Item → Bool → Bool
-- LB25: a pair where no rule for numbers holds, or such a rule
makes Pairs before after true = by_pair before after && not (in_number before after)
makes Pairs before after false = in_number before after
-- LB30b: the standard joins some more pictographs to EM than those of class EB
makes Pictographs before after true = false
makes Pictographs before after false = is_pictograph before && begins (Em ∷ []) after

-- the choice makes a difference at the boundary after the first `end` of these code points
abbrev pub makes_at : TableValues → List ℕ → Choice → ℕ → Bool → Bool
makes_at tables points choice end wanted = makes choice (reverse (items_of tables (take end points))) (items_of tables (drop end points)) wanted

-- at that boundary a break came exactly if one is wanted, or the choice makes the difference
abbrev pub explains_at : TableValues → List ℕ → Choice → ℕ → Bool → Bool → Bool
explains_at tables points choice end true came = came || makes_at tables points choice end true
explains_at tables points choice end false came = not came || makes_at tables points choice end false

-- the choice makes each difference between the breaks after code points that are wanted and those that came
pub record Explains (tables : TableValues) (points : List ℕ) (wanted came : List Bool) (choice : Choice) : Type 0 where
  pub wanted_len : length wanted ≡ length points
  pub came_len : length came ≡ length points
  pub each : EachIndex wanted (λ k. explains_at tables points choice (k + 1) (slice_index_or wanted k false) (slice_index_or came k false) ≡ true)
