-- The goals of `hide` that are answered by hand.
use Rattle.std.proofs.Common.{◌∙◌, true, false, sym, ap, subst, refl, length, get_or, arith}
use Rattle.std.specs.Prelude.{vec_len}
use Rattle.std.proofs.lemmas.List.{length-set}
use Rattle.bg_types.specs.declared.op.Place.TheVariants.{Root}
use Rattle.rga_tree.specs.declared.element.Element.{Element}
use Rattle.rga_tree.specs.Row.{operations_of}
use Rattle.rga_tree.specs.KeepsWalk.{KeepsWalk}
use Rattle.rga_tree.proofs.Interface.{hiding, has_row, until, until_some, any_default}
use Rattle.rga_runs.specs.Stretches.{elements_in}
use Rattle.rga_runs.specs.Counters.{are_up_to}
use Rattle.rga_runs.proofs.Counters.{up_set, up_at}
use Rattle.rga_runs.specs.Indexed.{stretches_in}
use Rattle.rga_runs.proofs.Rows.{is_placed}
use Rattle.rga_runs.proofs.Taken.{room_for_same}
use Rattle.rga_runs.proofs.Whole.{kept_apart}
use Rattle.rga_runs.proofs.runs.RunsSequence.hide.Goals as goal

pub hide-requires-clause-placed : goal.hide-requires-clause-placed
hide-requires-clause-placed c = is_placed c.args.self.now.characters.items (stretches_in c.args.self.now.row) c.args.id c.requires

pub hide-requires-clause-apart : goal.hide-requires-clause-apart
hide-requires-clause-apart c = kept_apart c.args.self.now.characters.items (stretches_in c.args.self.now.row) c.args.self.now.stored c.args.self.now.keeps_walk

pub invariant_of-self : goal.invariant_of-self
invariant_of-self c =
    let self = c.args.self.now in
    let chars = self.characters.items in
    let ss = stretches_in self.row in
    let id = c.args.id in
    let row = elements_in chars ss in
    let at = until id row in
    let other : Element = record { id = id; parent = Root; ch = 0; hidden = false } in
    let e = get_or row at other in
    let placed = any_default row at other (until_some id row (sym (has_row row id) ∙ c.requires)) in
    let step = hiding row id at e self.keeps_walk c.requires refl placed in
    let same = c.hide.ensures.elements chars self.stored other in
    record {
      keeps_walk = subst KeepsWalk (sym same) step.0;
      stored = c.hide.ensures.stored (length chars) self.stored;
      indexed = c.hide.ensures.indexed;
      counted = self.counted ∙ sym (ap length same ∙ length-set row at (record e { hidden = true }));
      visible_are = omega (arith, self.visible_are, c.hide.ensures.visible);
      up_to = ap (are_up_to self.highest) same
          ∙ up_set self.highest row at (record e { hidden = true }) self.up_to (up_at self.highest row at other self.up_to (until_some id row (sym (has_row row id) ∙ c.requires)));
      enough = room_for_same self.room (vec_len self.characters) self.row c.hide.new.row c.hide.ensures.room self.enough;
      enough_characters = self.enough_characters;
      few = self.few;
    }

pub returns-clause-content : goal.returns-clause-content
returns-clause-content c =
    let self = c.args.self.now in
    let chars = self.characters.items in
    let ss = stretches_in self.row in
    let id = c.args.id in
    let row = elements_in chars ss in
    let at = until id row in
    let other : Element = record { id = id; parent = Root; ch = 0; hidden = false } in
    let e = get_or row at other in
    let placed = any_default row at other (until_some id row (sym (has_row row id) ∙ c.requires)) in
    let step = hiding row id at e self.keeps_walk c.requires refl placed in
    ap operations_of (c.hide.ensures.elements chars self.stored other) ∙ step.1
