-- The goals of `reserve` that are answered by hand.
use Rattle.std.proofs.Common.{◌≡◌, ◌+◌, ◌*◌, ◌∙◌, sym, ap, subst, length, arith}
use Rattle.rga_tree.specs.KeepsWalk.{KeepsWalk}
use Rattle.rga_sequence.specs.Blocks.{seen, joined}
use Rattle.rga_sequence.specs.BlockRows.{items_of}
use Rattle.rga_sequence.specs.Indexed.{elements_in, HasRoom}
use Rattle.rga_sequence.proofs.blocks.BlocksSequence.reserve.Goals as goal

pub invariant_of-self : goal.invariant_of-self
invariant_of-self c =
    let row = elements_in c.args.self.now.row in
    let same : elements_in c.make_memory.new.row ≡ row = ap (λ bs. joined (items_of bs)) c.make_memory.ensures.blocks in
    let kept : KeepsWalk (elements_in c.make_memory.new.row) = subst KeepsWalk (sym same) c.args.self.now.keeps_walk in
    record {
      keeps_walk = kept;
      indexed = c.make_memory.ensures.indexed;
      enough = c.make_memory.ensures.kept c.args.self.now.room c.args.self.now.enough;
      placed_are = c.args.self.now.placed_are ∙ sym (ap length same);
      visible_are = c.args.self.now.visible_are ∙ sym (ap seen same);
    }

pub invariant_of-self-2 : goal.invariant_of-self-2
invariant_of-self-2 c =
    let row = elements_in c.args.self.now.row in
    let same : elements_in c.make_memory.new.row ≡ row = ap (λ bs. joined (items_of bs)) c.make_memory.ensures.blocks in
    let kept : KeepsWalk (elements_in c.make_memory.new.row) = subst KeepsWalk (sym same) c.args.self.now.keeps_walk in
    let swap : c.args.self.now.room + 256 * c.div_ceil-more.result ≡ c.args.self.now.room + c.div_ceil-more.result * 256 = omega arith in
    record {
      keeps_walk = kept;
      indexed = c.make_memory.ensures.indexed;
      enough = subst (HasRoom c.make_memory.new.row) swap (c.in_ok-make_memory.ensures.ok c.args.self.now.room c.args.self.now.enough (omega arith));
      placed_are = c.args.self.now.placed_are ∙ sym (ap length same);
      visible_are = c.args.self.now.visible_are ∙ sym (ap seen same);
    }
