-- The row's sums are those of its blocks.
use Rattle.std.proofs.Common.{◌+◌, ◌∙◌, ap, sym, subst, length, take, arith}
use Rattle.rga_sequence.specs.BlockRows.{items_of}
use Rattle.rga_sequence.specs.Blocks.{seen_all}
use Rattle.rga_sequence.specs.Indexed.{blocks_in}
use Rattle.rga_sequence.specs.Sums.{AreSums}
use Rattle.rga_sequence.proofs.Numbers.{length-items}
use Rattle.rga_sequence.proofs.blocks.BlocksLook.pass.Goals as goal

pub pass-requires-clause-sums : goal.pass-requires-clause-sums
pass-requires-clause-sums c =
    subst (λ bs. AreSums c.deref-2.result.now (items_of bs)) (sym c.deref.ensures.value)
    (subst (λ ss. AreSums ss (blocks_in c.args.self.now.row)) (sym c.deref-2.ensures.value) c.args.self.now.indexed.sums)

pub pass-requires-clause-room : goal.pass-requires-clause-room
pass-requires-clause-room c =
    omega (arith, c.requires.room, length-items c.args.self.now.row.blocks.items, ap length c.deref.ensures.value)

pub returns-clause-there : goal.returns-clause-there
returns-clause-there c = omega (arith, c.pass.ensures.there, length-items c.args.self.now.row.blocks.items, ap length c.deref.ensures.value)

pub returns-clause-before : goal.returns-clause-before
returns-clause-before c =
    ap (λ bs. seen_all (take c.pass.result.0 (items_of bs)) + c.pass.result.1) (sym c.deref.ensures.value) ∙ c.pass.ensures.before
