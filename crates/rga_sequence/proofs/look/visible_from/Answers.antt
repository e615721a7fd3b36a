-- The goals of `visible_from` that are answered by hand.
use Rattle.std.proofs.Common.{◌≡◌, ℕ, ◌<◌, ◌+◌, ◌∙◌, List, sym, ap, get_or, [], take, arith}
use Rattle.std.specs.Prelude.{slice_get}
use Rattle.rga_tree.specs.declared.element.Element.{Element}
use Rattle.rga_sequence.specs.Blocks.{seen}
use Rattle.rga_sequence.proofs.Nth.{visible-next}
use Rattle.rga_sequence.proofs.look.visible_from.Goals as goal

pub first_visible-found-requires-in-loop-clause-there : goal.first_visible-found-requires-in-loop-clause-there
first_visible-found-requires-in-loop-clause-there g c =
    let i = c.loop.invariant in
    let es = get_or (g.L.Look.blocks c.args.row.now) c.args.b [] in
    let left : seen (take (c.loop.found.0 + 1) es) < seen es = omega (arith, visible-next es c.loop.found.0 c.loop.found.1 i.there i.visible, i.before, c.loop-test.true, c.requires.there) in
    rw i.same left

pub loop-preserved : goal.loop-preserved
loop-preserved g c =
    let i = c.loop.invariant in
    let es = get_or (g.L.Look.blocks c.args.row.now) c.args.b [] in
    let call = c.first_visible-found-in-loop.ensures in
    let at = c.first_visible-found-in-loop.result.0 in
    let next = c.loop.found.0 + 1 in
    let seen_to = λ (n : ℕ) (x : List (List Element)). seen (take n (get_or x c.args.b [])) in
    let none_between : seen (take at es) ≡ seen (take next es) = ap (seen_to at) (sym i.same) ∙ call.before ∙ ap (seen_to next) i.same in
    record {
      same = call.content ∙ i.same;
      aside = call.aside ∙ i.aside;
      there = ap (λ x. slice_get (get_or x c.args.b []) at) (sym i.same) ∙ call.there;
      visible = call.visible;
      before = omega (arith, none_between, visible-next es c.loop.found.0 c.loop.found.1 i.there i.visible, i.before);
      looks = omega (arith, call.looks, i.looks);
    }
