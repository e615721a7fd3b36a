-- The goals of `list_stretch` that are answered by hand.
use Rattle.std.proofs.Common.{◌≡◌, ◌<◌, ◌+◌, ◌-◌, ◌++◌, List, [], length, take, drop, ◌∙◌, sym, ap, arith}
use Rattle.std.specs.Prelude.{map as each}
use Rattle.std.specs.List.{flat_map}
use Rattle.std.proofs.lemmas.List.{drop_more, take_rest}
use Rattle.bg_types.specs.declared.op.OpView.TheVariants.{Erase}
use Rattle.rga_tree.specs.declared.element.Element.{Element}
use Rattle.rga_tree.specs.Elements.{elements}
use Rattle.rga_tree.specs.Row.{shown_ids}
use Rattle.rga_tree.proofs.Interface.{place_within}
use Rattle.desk_replica.proofs.Ranges.{listed_part, from_there}
use Rattle.desk_replica.proofs.stretching.list_stretch.Goals as goal

pub overflow_step-p : goal.overflow_step-p
overflow_step-p g c =
    let spot = c.spot_at-part.ensures.value in
    omega (arith, (place_within (g.S.Sequence.parts c.spot_at-part.new.self) c.args.from c.spot_at-part.result.0 c.spot_at-part.result.1 spot.0 spot.1).0, c.part_count-parts.ensures, c.part_count-parts.type_inv)

pub loop-p-init : goal.loop-p-init
loop-p-init g c =
    let t = g.S.Sequence.content c.args.seq.now in
    let told = c.args.made.now.items in
    let parts = g.S.Sequence.parts c.spot_at-part.new.self in
    let spot = c.spot_at-part.ensures.value in
    let p = c.spot_at-part.result.0 in
    let at = c.spot_at-part.result.1 in
    let row = c.part.result.now in
    let behind : List Element = flat_map (λ part. part) (drop (p + 1) parts) in
    let rest = take_rest row at ∙ ap (drop at) c.part.ensures in
    let whole_is = g.met.S.Sequence.whole c.spot_at-part.new.self in
    record {
      made = listed_part told c.list_row-left.new.made.items c.args.count c.list_row-left.result (take (length row - at) (drop at row)) behind c.list_row-left.ensures.made c.list_row-left.ensures.left
          ∙ ap (λ l. told ++ each Erase (take c.args.count (shown_ids (l ++ behind)))) rest
          ∙ ap (λ l. told ++ l) (from_there t parts c.args.from c.args.count p at spot.0 (whole_is ∙ ap elements c.spot_at-part.ensures.content) spot.1);
      len = c.list_row-left.ensures.len;
      capacity = c.list_row-left.ensures.capacity;
    }

pub loop-p-preserved : goal.loop-p-preserved
loop-p-preserved g c =
    let parts = g.S.Sequence.parts c.spot_at-part.new.self in
    let p = c.loop-p.p in
    let row = c.part-in-loop-p.result.now in
    let rest : List Element = flat_map (λ part. part) (drop (p + 1) parts) in
    let there : p < length parts = omega (arith, c.loop-p-test.true, c.part_count-parts.ensures) in
    let split : flat_map (λ part. part) (drop p parts) ≡ row ++ rest = ap (flat_map (λ part. part)) (drop_more parts p [] there) ∙ ap (λ l. l ++ rest) (sym c.part-in-loop-p.ensures) in
    let call = c.list_row-left-in-loop-p.ensures in
    let now = c.loop-p.invariant in
    record {
      made = listed_part c.loop-p.made.items c.list_row-left-in-loop-p.new.made.items c.loop-p.left c.list_row-left-in-loop-p.result row rest call.made call.left
          ∙ ap (λ l. c.loop-p.made.items ++ each Erase (take c.loop-p.left (shown_ids l))) (sym split) ∙ now.made;
      len = call.len ∙ now.len;
      capacity = call.capacity ∙ now.capacity;
    }
