-- The goals of `hide` that are answered by hand.
use Rattle.std.proofs.Common.{◌≡◌, ◌∙◌, List, true, false, sym, ap, subst, refl, length, get_or, length-set, arith}
use Rattle.std.specs.Prelude.{set}
use Rattle.std.specs.FinMap as map
use Rattle.bg_types.specs.Identifier.{Identifier}
use Rattle.bg_types.specs.OperationSet.{with_operation}
use Rattle.bg_types.specs.declared.op.OpView.TheVariants.{Erase}
use Rattle.bg_types.specs.declared.op.Place.TheVariants.{Root}
use Rattle.rga_tree.specs.declared.element.Element.{Element}
use Rattle.rga_tree.specs.Row.{operations_of}
use Rattle.rga_tree.proofs.Interface.{hiding, has_row, until, until_some, any_default}
use Rattle.rga_tree.specs.KeepsWalk.{KeepsWalk}
use Rattle.rga_sequence.specs.Indexed.{elements_in}
use Rattle.rga_sequence.proofs.blocks.BlocksSequence.hide.Goals as goal

-- the row with a placed element hidden keeps the walk of the set with the erasure, and its length
record IsHidden (row new : List Element) (id : Identifier) : Type 0 where
  keeps_walk : KeepsWalk new
  content : operations_of new ≡ with_operation (operations_of row) (Erase id)
  long : length new ≡ length row

hidden_in : (row new : List Element) (id : Identifier) (e : Element) → KeepsWalk row → map.contains_key (operations_of row).ins id ≡ true → e ≡ get_or row (until id row) e
    → new ≡ set row (until id row) (record e { hidden = true }) → IsHidden row new id
hidden_in row new id e keeps placed e_is same =
    let step = hiding row id (until id row) e keeps placed refl e_is in
    record { keeps_walk = subst KeepsWalk (sym same) step.0; content = ap operations_of same ∙ step.1; long = ap length same ∙ length-set row (until id row) (record e { hidden = true }) }

pub hide-requires-clause-stands : goal.hide-requires-clause-stands
hide-requires-clause-stands c = sym (has_row (elements_in c.args.self.now.row) c.args.id) ∙ c.requires

pub invariant_of-self : goal.invariant_of-self
invariant_of-self c =
    let row = elements_in c.args.self.now.row in
    let other : Element = record { id = c.args.id; parent = Root; ch = 0; hidden = false } in
    let placed = any_default row (until c.args.id row) other (until_some c.args.id row (sym (has_row row c.args.id) ∙ c.requires)) in
    let step = hidden_in row (elements_in c.hide.new.row) c.args.id (get_or row (until c.args.id row) other) c.args.self.now.keeps_walk c.requires placed (c.hide.ensures.elements other) in
    record {
      keeps_walk = step.keeps_walk;
      indexed = c.hide.ensures.indexed;
      enough = c.hide.ensures.room c.args.self.now.room c.args.self.now.enough;
      placed_are = c.args.self.now.placed_are ∙ sym step.long;
      visible_are = omega (arith, c.hide.ensures.seen, c.args.self.now.visible_are);
    }

pub returns-clause-content : goal.returns-clause-content
returns-clause-content c =
    let row = elements_in c.args.self.now.row in
    let other : Element = record { id = c.args.id; parent = Root; ch = 0; hidden = false } in
    let placed = any_default row (until c.args.id row) other (until_some c.args.id row (sym (has_row row c.args.id) ∙ c.requires)) in
    let step = hidden_in row (elements_in c.hide.new.row) c.args.id (get_or row (until c.args.id row) other) c.args.self.now.keeps_walk c.requires placed (c.hide.ensures.elements other) in
    step.content

pub returns-clause-looked : goal.returns-clause-looked
returns-clause-looked c = refl
