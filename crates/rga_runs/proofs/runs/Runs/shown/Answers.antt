-- The goals of `shown` that are answered by hand.
use Rattle.std.proofs.Common.{◌≡◌, ◌+◌, ◌<◌, ◌∙◌, [], List, Some, false, length, take, get_or, refl, sym, ap, subst, arith}
use Rattle.std.specs.Prelude.{slice_get, vec_len}
use Rattle.std.proofs.lemmas.List.{get_or_default}
use Rattle.rga_tree.proofs.Interface.{seen_at, visible_at, visible_row}
use Rattle.rga_tree.specs.declared.element.Element.{Element}
use Rattle.rga_runs.specs.declared.stretch.Stretch.{Stretch}
use Rattle.rga_runs.specs.declared.block.Block.{Block}
use Rattle.rga_runs.specs.Typed.{later, is_odd, bits_from, unset}
use Rattle.rga_runs.specs.Stretches.{elements_of, parts_in, elements_in, visible_in}
use Rattle.rga_runs.specs.Blocks.{row_of, at_spot}
use Rattle.rga_runs.specs.BlockRows.{items_of}
use Rattle.rga_runs.specs.Sums.{AreSums}
use Rattle.rga_runs.specs.Indexed.{stretches_in, stretches_for}
use Rattle.rga_runs.proofs.BlockLists.{length-items}
use Rattle.rga_runs.proofs.Chunks.{get_or_row, at_less, one_there}
use Rattle.rga_runs.proofs.Rows.{stored_at, element_at}
use Rattle.rga_runs.proofs.Summed.{few_seen}
use Rattle.rga_runs.proofs.Taken.{noted, room_noted}
use Rattle.rga_runs.proofs.Whole.{seen_elements, visible_place}
use Rattle.rga_runs.proofs.runs.Runs.shown.Goals as goal

pub visible_spot-b-requires : goal.visible_spot-b-requires
visible_spot-b-requires c =
    let self = c.args.self.now in
    let chars = self.characters.items in
    let ss = stretches_in self.row in
    record {
      there = omega (arith, ap (λ bs. visible_in (row_of (items_of bs))) c.deref.ensures.value, seen_elements chars ss self.stored, visible_row (elements_in chars ss) self.keeps_walk.in_order, c.requires);
      sums = subst (λ sums. AreSums sums (items_of c.deref.result.now)) (sym c.deref-2.ensures.value) (subst (λ bs. AreSums self.row.sums.items (items_of bs)) (sym c.deref.ensures.value) self.indexed.sums);
      few = omega (arith, ap (λ bs. visible_in (row_of (items_of bs))) c.deref.ensures.value, few_seen self.row.blocks.items (omega (arith, self.indexed.few, self.row.blocks.ok)));
    }

-- it was noted where the element stands, and nothing else
pub invariant_of-self : goal.invariant_of-self
invariant_of-self c =
    let self = c.args.self.now in
    let chars = vec_len self.characters in
    let stretches = length (stretches_in self.row) in
    let b = c.visible_spot-b.result.0 in
    let j = c.visible_spot-b.result.1 in
    record {
      keeps_walk = self.keeps_walk;
      stored = self.stored;
      indexed = noted self.row b j self.indexed;
      counted = self.counted;
      visible_are = self.visible_are;
      up_to = self.up_to;
      enough = room_noted self.row b j (stretches_for self.room chars stretches) self.enough;
      enough_characters = self.enough_characters;
      few = self.few;
    }

pub returns : goal.returns
returns c =
    let self = c.args.self.now in
    let r = self.row in
    let chars = self.characters.items in
    let xs = items_of r.blocks.items in
    let ss = stretches_in r in
    let b = c.visible_spot-b.result.0 in
    let j = c.visible_spot-b.result.1 in
    let k = c.visible_spot-b.result.2 in
    let is = c.deref.ensures.value in
    let there : b < length xs = omega (arith, c.visible_spot-b.ensures.block, ap length is, length-items r.blocks.items) in
    let within : j < length (get_or xs b []) = subst (λ (bs : List Block). j < length (get_or (items_of bs) b [])) is c.visible_spot-b.ensures.within in
    let inside = subst (λ (bs : List Block). (d : Stretch) → k < (get_or (get_or (items_of bs) b []) j d).count) is c.visible_spot-b.ensures.inside in
    let shown = subst (λ (bs : List Block). (d : Stretch) → is_odd (bits_from k (get_or (get_or (items_of bs) b []) j d).hidden) ≡ false) is c.visible_spot-b.ensures.visible in
    let place = subst (λ (bs : List Block). (d : Stretch) → visible_in (take (at_spot (items_of bs) b j) (row_of (items_of bs))) + unset k (get_or (get_or (items_of bs) b []) j d).hidden ≡ c.args.k) is c.visible_spot-b.ensures.place in
    let p = at_spot xs b j in
    let less = at_less xs b j there within in
    let d = one_there ss p less in
    let item = get_or_row xs b j d there within in
    let long : k < (get_or ss p d).count = omega (arith, inside d, ap (λ (s : Stretch). s.count) item) in
    let found = λ (e : Element) (read : slice_get (elements_of chars (get_or ss p d)) k ≡ Some e).
    seen_at (elements_in chars ss) c.args.k e self.keeps_walk.in_order (visible_at (parts_in chars ss) c.args.k p k e (visible_place chars ss c.args.k p k d e self.stored less long
    (ap (λ (s : Stretch). is_odd (bits_from k s.hidden)) item ∙ shown d) (ap (λ (s : Stretch). visible_in (take p ss) + unset k s.hidden) item ∙ place d) read)) in
    let it = element_at chars (get_or ss p d) k (stored_at (length chars) ss p d self.stored less) long in
    record {
      block = omega (arith, there, length-items r.blocks.items, r.blocks.ok);
      within = within;
      inside = inside;
      id = λ e. (found _ it).0 ∙ ap (λ (s : Stretch). Some (later s.first k)) (item ∙ get_or_default (get_or xs b []) j d e within);
      ch = λ e x read. (found x (ap (λ (s : Stretch). slice_get (elements_of chars s) k) (item ∙ get_or_default (get_or xs b []) j d e within) ∙ read)).1;
      content = refl;
      room = refl;
    }
