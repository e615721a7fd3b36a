-- The goals of `element_of` that are answered by hand.
use Rattle.std.proofs.Common.{◌≡◌, ◌<◌, ◌≤◌, ◌+◌, ◌-◌, ◌∙◌, ap, get_or, [], length, take, drop, length-drop, arith}
use Rattle.rga_sequence.specs.Blocks.{seen}
use Rattle.rga_sequence.proofs.Nth.{room_behind, seen-add, seen-next}
use Rattle.rga_sequence.proofs.look.element_of.Goals as goal

pub overflow_add-end : goal.overflow_add-end
overflow_add-end g c =
    let l = c.loop-left in
    let es = get_or (g.L.Look.blocks c.args.row.now) c.args.b [] in
    omega (arith, room_behind es l.at l.left (omega (arith, l.invariant.before, c.requires.there, c.requires.visible)), c.min.ensures, c.requires.few)

-- the elements that are passed are there
pub visible_in-left-requires-clause-there : goal.visible_in-left-requires-clause-there
visible_in-left-requires-clause-there g c =
    let l = c.loop-left in
    let es = get_or (g.L.Look.blocks c.args.row.now) c.args.b [] in
    let there : l.at + c.min.result ≤ length es = omega (arith, room_behind es l.at l.left (omega (arith, l.invariant.before, c.requires.there, c.requires.visible)), c.min.ensures) in
    rw l.invariant.same there

pub visible_in-left-requires-clause-room : goal.visible_in-left-requires-clause-room
visible_in-left-requires-clause-room g c =
    let l = c.loop-left in
    let es = get_or (g.L.Look.blocks c.args.row.now) c.args.b [] in
    omega (arith, l.invariant.looks, c.requires.room, c.requires.few, c.min.ensures, room_behind es l.at l.left (omega (arith, l.invariant.before, c.requires.there, c.requires.visible)))

pub overflow_sub-left : goal.overflow_sub-left
overflow_sub-left g c =
    let l = c.loop-left in
    let m = c.min.result in
    let es = get_or (g.L.Look.blocks c.args.row.now) c.args.b [] in
    let there : l.at + m < length es + 1 = omega (arith, room_behind es l.at l.left (omega (arith, l.invariant.before, c.requires.there, c.requires.visible)), c.min.ensures) in
    let same : l.at + m - l.at ≡ m = omega arith in
    let read = c.visible_in-left.ensures.value ∙ ap (λ n. seen (take n (drop l.at (get_or (g.L.Look.blocks l.row) c.args.b [])))) same ∙ ap (λ x. seen (take m (drop l.at (get_or x c.args.b [])))) l.invariant.same in
    omega (arith, read, seen-next es l.at m (omega (arith, length-drop l.at es, there)), c.min.ensures)

pub loop-left-preserved : goal.loop-left-preserved
loop-left-preserved g c =
    let l = c.loop-left in
    let m = c.min.result in
    let es = get_or (g.L.Look.blocks c.args.row.now) c.args.b [] in
    let call = c.visible_in-left.ensures in
    let same : l.at + m - l.at ≡ m = omega arith in
    let read = call.value ∙ ap (λ n. seen (take n (drop l.at (get_or (g.L.Look.blocks l.row) c.args.b [])))) same ∙ ap (λ x. seen (take m (drop l.at (get_or x c.args.b [])))) l.invariant.same in
    record {
      same = call.content ∙ l.invariant.same;
      aside = call.aside ∙ l.invariant.aside;
      before = omega (arith, l.invariant.before, read, seen-add es l.at m, overflow_sub-left g c);
      looks = omega (arith, call.looks, l.invariant.looks);
    }
