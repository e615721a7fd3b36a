-- The goals of `first_visible` that are answered by hand.
use Rattle.std.proofs.Common.{◌+◌, ◌∙◌, sym, ap, get_or, [], arith}
use Rattle.std.specs.Prelude.{slice_get}
use Rattle.rga_sequence.proofs.Nth.{further-there, hidden-next}
use Rattle.rga_sequence.proofs.look.first_visible.Goals as goal

pub element-element-requires-in-loop-element-clause-there : goal.element-element-requires-in-loop-element-clause-there
element-element-requires-in-loop-element-clause-there g c =
    let l = c.loop-element in
    let es = get_or (g.L.Look.blocks c.args.row.now) c.args.b [] in
    rw l.invariant.same (further-there es l.at c.args.from l.element l.invariant.there c.loop-element-test.true l.invariant.before c.requires.there)

pub element-element-requires-in-loop-element-clause-room : goal.element-element-requires-in-loop-element-clause-room
element-element-requires-in-loop-element-clause-room g c =
    let l = c.loop-element in
    let es = get_or (g.L.Look.blocks c.args.row.now) c.args.b [] in
    let further = further-there es l.at c.args.from l.element l.invariant.there c.loop-element-test.true l.invariant.before c.requires.there in
    omega (arith, l.invariant.looks, c.requires.room, further)

pub loop-element-preserved : goal.loop-element-preserved
loop-element-preserved g c =
    let l = c.loop-element in
    let i = l.invariant in
    let es = get_or (g.L.Look.blocks c.args.row.now) c.args.b [] in
    let call = c.element-element-in-loop-element.ensures in
    record {
      same = call.content ∙ i.same;
      aside = call.aside ∙ i.aside;
      there = ap (λ x. slice_get (get_or x c.args.b []) (l.at + 1)) (sym i.same) ∙ call.value;
      before = hidden-next es l.at l.element i.there c.loop-element-test.true ∙ i.before;
      looks = omega (arith, call.looks, i.looks);
    }
