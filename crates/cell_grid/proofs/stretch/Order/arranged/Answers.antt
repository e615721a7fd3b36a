-- The stretches move as one.
use Rattle.std.proofs.Common.{◌<◌, length, map, flat_map, sym, ap, subst, ◌∙◌, arith}
use Rattle.std.proofs.lemmas.List.{length-map}
use Rattle.std.proofs.lemmas.List.Elements.{All-same}
use Rattle.std.proofs.lemmas.Result.{IfOk-weaker}
use Rattle.std.specs.List.{All}
use Rattle.reorder.specs.Pieces.{piece_order}
use Rattle.cell_grid.specs.declared.stretch.Stretch.{Stretch}
use Rattle.cell_grid.specs.Pieces.{piece_at}
use Rattle.cell_grid.specs.Stretches.{level_piece, AreStretches}
use Rattle.cell_grid.proofs.Sides.{order-below}
use Rattle.cell_grid.proofs.Stretches.{few-stretches, arranged-stretches}
use Rattle.cell_grid.proofs.stretch.Order.arranged.Goals as goal

pub visual_into-requires : goal.visual_into-requires
visual_into-requires c =
    let n = ap length (c.deref.ensures.value ∙ c.in_ok-find.ensures.levels) ∙ length-map c.find.new.self.stretches.items (λ (s : Stretch). s.level) in
    let few = few-stretches c.args.pieces.now c.find.new.self.stretches.items c.in_ok-find.ensures.stretches in
    let all = c.requires in
    omega arith

pub in_order-requires-clause-stretches : goal.in_order-requires-clause-stretches
in_order-requires-clause-stretches c = subst (AreStretches c.args.pieces.now) (sym c.deref-2.ensures.value) c.in_ok-find.ensures.stretches

pub in_order-requires-clause-numbers : goal.in_order-requires-clause-numbers
in_order-requires-clause-numbers c =
    let n = ap length (c.deref.ensures.value ∙ c.in_ok-find.ensures.levels) ∙ length-map c.find.new.self.stretches.items (λ (s : Stretch). s.level) ∙ sym (ap length c.deref-2.ensures.value) in
    subst (λ m. All (λ k. k < m) c.deref-3.result.now) n
    (All-same (λ k. k < length c.deref.result.now) c.deref-3.result.now c.visual_into.new.order.items c.deref-3.ensures.value
    (order-below (length c.deref.result.now) c.visual_into.new.order.items c.in_ok-visual_into.ensures.rearrangement))

pub returns : goal.returns
returns c =
    let pieces = c.args.pieces.now in
    let stretches = c.find.new.self.stretches.items in
    IfOk-weaker c.in_order.result _ _
    (λ runs e. e
    ∙ ap (λ l. map (piece_at pieces) (flat_map (piece_order (map level_piece l)) c.deref-3.result.now)) c.deref-2.ensures.value
    ∙ arranged-stretches pieces stretches c.in_ok-find.ensures.stretches c.pieces_move_as_one.ensures c.deref.result.now c.deref-3.result.now
    (c.deref.ensures.value ∙ c.in_ok-find.ensures.levels) (c.deref-3.ensures.value ∙ c.in_ok-visual_into.ensures.list))
    c.in_order.ensures
