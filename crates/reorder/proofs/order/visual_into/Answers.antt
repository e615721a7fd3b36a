-- The goals of `visual_into` that are answered by hand.
use Rattle.std.proofs.Common.{eqb-true, sym, ◌∙◌, subst, length}
use Rattle.std.specs.Prelude.{IsPermutation}
use Rattle.std.specs.List.{range_with_len}
use Rattle.std.proofs.lemmas.Result.{on_ok_weaker}
use Rattle.reorder.proofs.Rearranged.{visual_list-permutes}
use Rattle.reorder.proofs.WholeLine.{visual_list-empty, walk-now, walk-within}
use Rattle.reorder.proofs.order.visual_into.Goals as goal

pub returns-then-is_empty-clause-list : goal.returns-then-is_empty-clause-list
returns-then-is_empty-clause-list c = c.clear.ensures.items ∙ visual_list-empty c.args.levels.now (eqb-true _ _ (sym c.if-is_empty.ensures))

pub returns-then-is_empty-clause-rearrangement : goal.returns-then-is_empty-clause-rearrangement
returns-then-is_empty-clause-rearrangement c =
    subst (IsPermutation (range_with_len 0 (length c.args.levels.now))) (sym (returns-then-is_empty-clause-list c)) (visual_list-permutes c.args.levels.now)

pub walk_into-requires : goal.walk_into-requires
walk_into-requires c =
    let line = c.stretch_from-line.result in
    let r = c.stretch_from-line.ensures in
    walk-within c.args.levels.now c.deref.result.now line.piece.first (c.deref.ensures.len ∙ c.in_ok-resize.ensures.len)
    (walk-now c.args.levels.now c.resize.new.self.items c.stretch_from-line.new.links c.deref.result.now c.resize.new.self.len
    line.piece.first line.piece.last line.end c.deref.ensures.value (r.length ∙ c.deref_mut.ensures.len) c.in_ok-resize.ensures.len r.within r.whole r.linked)

pub returns-clause-list : goal.returns-clause-list
returns-clause-list c =
    let line = c.stretch_from-line.result in
    let r = c.stretch_from-line.ensures in
    on_ok_weaker c.walk_into.result (λ e. e ∙ walk-now c.args.levels.now c.resize.new.self.items c.stretch_from-line.new.links c.deref.result.now c.resize.new.self.len
    line.piece.first line.piece.last line.end c.deref.ensures.value (r.length ∙ c.deref_mut.ensures.len) c.in_ok-resize.ensures.len r.within r.whole r.linked)
    c.walk_into.ensures

pub returns-clause-rearrangement : goal.returns-clause-rearrangement
returns-clause-rearrangement c =
    let line = c.stretch_from-line.result in
    let r = c.stretch_from-line.ensures in
    let is = walk-now c.args.levels.now c.resize.new.self.items c.stretch_from-line.new.links c.deref.result.now c.resize.new.self.len
    line.piece.first line.piece.last line.end c.deref.ensures.value (r.length ∙ c.deref_mut.ensures.len) c.in_ok-resize.ensures.len r.within r.whole r.linked in
    on_ok_weaker c.walk_into.result (λ e. subst (IsPermutation (range_with_len 0 (length c.args.levels.now))) (sym (e ∙ is)) (visual_list-permutes c.args.levels.now))
    c.walk_into.ensures
