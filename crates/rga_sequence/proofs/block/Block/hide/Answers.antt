-- The goals of `hide` that are answered by hand.
use Rattle.std.proofs.Common.{◌≡◌, ℕ, ◌∙◌, sym, ap, subst, cond, arith, get_or}
use Rattle.rga_tree.specs.declared.element.Element.{Element}
use Rattle.rga_sequence.specs.Blocks.{is_least, FallsFrom}
use Rattle.rga_sequence.proofs.Falling.{falls-hide}
use Rattle.rga_sequence.proofs.Shown.{seen-gone, set-hide, least-hide, weight_le-seen}
use Rattle.rga_sequence.proofs.block.Block.hide.Goals as goal

pub overflow_sub-self : goal.overflow_sub-self
overflow_sub-self c =
    let es = c.args.self.now.elements.items in
    let r = c.index.result.now in
    let some = weight_le-seen es c.args.at r c.requires in
    let weigh : Element → ℕ = λ x. cond x.hidden 0 1 in
    let is : weigh r ≡ weigh (get_or es c.args.at r) = ap weigh c.index.ensures in
    omega (arith, some, is, c.weight-gone.ensures, c.args.self.now.counted)

pub invariant_of-self : goal.invariant_of-self
invariant_of-self c =
    let es = c.args.self.now.elements.items in
    let r = c.index.result.now in
    let e = c.index_mut.result.now in
    let fewer = seen-gone es c.args.at r e c.requires c.index.ensures c.index_mut.ensures.value in
    record {
      few = c.args.self.now.few;
      room = c.args.self.now.room;
      counted = omega (arith, fewer, c.weight-gone.ensures, c.args.self.now.counted);
      least_is = ap (is_least c.args.self.now.least) (set-hide es c.args.at e c.index_mut.ensures.value) ∙ least-hide c.args.self.now.least es c.args.at e ∙ c.args.self.now.least_is;
      falling_within = c.args.self.now.falling_within;
      falls = subst (FallsFrom c.args.self.now.falling) (sym (set-hide es c.args.at e c.index_mut.ensures.value)) (falls-hide es c.args.at c.args.self.now.falling e c.args.self.now.falls);
    }

pub returns-clause-seen : goal.returns-clause-seen
returns-clause-seen c =
    let es = c.args.self.now.elements.items in
    let fewer = seen-gone es c.args.at c.index.result.now c.index_mut.result.now c.requires c.index.ensures c.index_mut.ensures.value in
    omega (arith, fewer, c.weight-gone.ensures)
