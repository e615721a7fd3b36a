-- The goals of `spot_at` that are answered by hand.
use Rattle.std.proofs.Common.{◌≡◌, ◌+◌, ◌<◌, ◌*◌, ◌∙◌, [], List, false, length, take, get_or, refl, sym, ap, subst, arith}
use Rattle.std.specs.Prelude.{slice_get}
use Rattle.rga_tree.specs.declared.element.Element.{Element}
use Rattle.rga_tree.specs.Spot.{seen}
use Rattle.rga_tree.proofs.Interface.{visible_row}
use Rattle.rga_runs.specs.declared.stretch.Stretch.{Stretch}
use Rattle.rga_runs.specs.declared.block.Block.{Block}
use Rattle.rga_runs.specs.Typed.{is_odd, bits_from, unset}
use Rattle.rga_runs.specs.Stretches.{elements_of, elements_in, visible_in, visible_of}
use Rattle.rga_runs.specs.Blocks.{row_of, at_spot}
use Rattle.rga_runs.specs.BlockRows.{items_of}
use Rattle.rga_runs.specs.Sums.{AreSums}
use Rattle.rga_runs.specs.Indexed.{stretches_in}
use Rattle.rga_runs.specs.Filled.{filled}
use Rattle.rga_runs.proofs.BlockLists.{length-items}
use Rattle.rga_runs.proofs.Chunks.{get_or_row, at_less, one_there}
use Rattle.rga_runs.proofs.Summed.{few_seen}
use Rattle.rga_runs.proofs.Whole.{seen_elements}
use Rattle.rga_runs.specs.Whole.{few_items}
use Rattle.rga_runs.proofs.Filled.{part_filled, seen_filled}
use Rattle.rga_runs.proofs.Rows.{stored_at, element_at, part_there, seen_in_part}
use Rattle.rga_runs.proofs.Sums.{sum_before}
use Rattle.rga_runs.proofs.runs.RunsSequence.spot_at.Goals as goal

pub visible_spot-b-requires : goal.visible_spot-b-requires
visible_spot-b-requires c =
    let self = c.args.self.now in
    let chars = self.characters.items in
    let ss = stretches_in self.row in
    record {
      there = omega (arith, ap (λ bs. visible_in (row_of (items_of bs))) c.deref.ensures.value, seen_elements chars ss self.stored, visible_row (elements_in chars ss) self.keeps_walk.in_order, c.requires);
      sums = subst (λ sums. AreSums sums (items_of c.deref.result.now)) (sym c.deref-2.ensures.value) (subst (λ bs. AreSums self.row.sums.items (items_of bs)) (sym c.deref.ensures.value) self.indexed.sums);
      few = omega (arith, ap (λ bs. visible_in (row_of (items_of bs))) c.deref.ensures.value, few_seen self.row.blocks.items (omega (arith, self.indexed.few, self.row.blocks.ok)));
    }

pub overflow_add-result : goal.overflow_add-result
overflow_add-result c =
    let self = c.args.self.now in
    let r = self.row in
    let chars = self.characters.items in
    let xs = items_of r.blocks.items in
    let ss = stretches_in r in
    let b = c.visible_spot-b.result.0 in
    let j = c.visible_spot-b.result.1 in
    let k = c.visible_spot-b.result.2 in
    let is = c.deref.ensures.value in
    let there : b < length xs = omega (arith, c.visible_spot-b.ensures.block, ap length is, length-items r.blocks.items) in
    let within : j < length (get_or xs b []) = subst (λ (bs : List Block). j < length (get_or (items_of bs) b [])) is c.visible_spot-b.ensures.within in
    let few = few_items r.blocks.items b there in
    omega (arith, few, within, there, length-items r.blocks.items, r.blocks.ok, self.enough.few)

pub returns : goal.returns
returns c =
    let self = c.args.self.now in
    let r = self.row in
    let chars = self.characters.items in
    let xs = items_of r.blocks.items in
    let ss = stretches_in r in
    let b = c.visible_spot-b.result.0 in
    let j = c.visible_spot-b.result.1 in
    let k = c.visible_spot-b.result.2 in
    let is = c.deref.ensures.value in
    let there : b < length xs = omega (arith, c.visible_spot-b.ensures.block, ap length is, length-items r.blocks.items) in
    let within : j < length (get_or xs b []) = subst (λ (bs : List Block). j < length (get_or (items_of bs) b [])) is c.visible_spot-b.ensures.within in
    let inside = subst (λ (bs : List Block). (d : Stretch) → k < (get_or (get_or (items_of bs) b []) j d).count) is c.visible_spot-b.ensures.inside in
    let shown = subst (λ (bs : List Block). (d : Stretch) → is_odd (bits_from k (get_or (get_or (items_of bs) b []) j d).hidden) ≡ false) is c.visible_spot-b.ensures.visible in
    let place = subst (λ (bs : List Block). (d : Stretch) → visible_in (take (at_spot (items_of bs) b j) (row_of (items_of bs))) + unset k (get_or (get_or (items_of bs) b []) j d).hidden ≡ c.args.k) is c.visible_spot-b.ensures.place in
    let p = at_spot xs b j in
    let less = at_less xs b j there within in
    let d = one_there ss p less in
    let item = get_or_row xs b j d there within in
    let s = get_or ss p d in
    let n = 256 * b + j in
    let few = few_items r.blocks.items in
    let small : j < 256 = omega (arith, few b there, within) in
    let inner : k < s.count = omega (arith, inside d, ap (λ (z : Stretch). z.count) item) in
    let e = element_at chars s k (stored_at (length chars) ss p d self.stored less) inner in
    let part : get_or (filled chars xs) n [] ≡ elements_of chars s = part_filled chars xs b j few there small ∙ part_there chars (get_or xs b []) j d within ∙ ap (elements_of chars) (sym item) in
    let front = seen_filled chars xs b j self.stored few there (omega (arith, small)) in
    let mine = ap (λ (es : List Element). seen (take k es)) (part ∙ sym (part_there chars ss p d less)) ∙ seen_in_part chars ss p k d self.stored less (omega (arith, inner)) in
    let marks = ap (λ (z : Stretch). unset k z.hidden) item in
    record {
      value = (
        _,
        record {
          there = ap (λ (es : List Element). slice_get es k) part ∙ e;
          visible = ap (λ (z : Stretch). is_odd (bits_from k z.hidden)) item ∙ shown d;
          before = omega (arith, front, mine, marks, place d, sum_before visible_of xs b j there (omega (arith, within)));
        },
      );
      content = refl;
      room = refl;
    }
