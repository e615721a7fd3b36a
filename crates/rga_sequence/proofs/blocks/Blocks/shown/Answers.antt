-- The goals of `shown` that are answered by hand.
use Rattle.std.proofs.Common.{arith}
use Rattle.rga_tree.proofs.Interface.{seen_at, visible_row, seen_all-joined}
use Rattle.rga_sequence.specs.Indexed.{blocks_in, elements_in}
use Rattle.rga_sequence.proofs.blocks.Blocks.shown.Goals as goal

pub find-requires-clause-there : goal.find-requires-clause-there
find-requires-clause-there c =
    let row = c.args.self.now.row in
    omega (arith, seen_all-joined (blocks_in row), visible_row (elements_in row) c.args.self.now.keeps_walk.in_order, c.requires)

pub returns-clause-id : goal.returns-clause-id
returns-clause-id c = (seen_at (elements_in c.args.self.now.row) c.args.k c.find.result c.args.self.now.keeps_walk.in_order c.find.ensures.value).0

pub returns-clause-ch : goal.returns-clause-ch
returns-clause-ch c = (seen_at (elements_in c.args.self.now.row) c.args.k c.find.result c.args.self.now.keeps_walk.in_order c.find.ensures.value).1
