-- The goals of `end_of` that are answered by hand.
use Rattle.std.proofs.Common.{◌≡◌, suc, ◌+◌, length, take, get_or, ap, arith}
use Rattle.rga_runs.specs.Blocks.{row_of}
use Rattle.rga_runs.specs.BlockRows.{items_of}
use Rattle.rga_runs.proofs.BlockLists.{items_there}
use Rattle.rga_runs.proofs.Chunks.{row-suc}
use Rattle.rga_runs.proofs.skip.end_of.Goals as goal

pub returns-clause-place : goal.returns-clause-place
returns-clause-place c =
    let bs = c.args.blocks.now in
    let x = c.index-blocks-b.result in
    let one_more : c.args.b + 1 ≡ suc c.args.b = omega arith in
    omega (arith, ap (λ n. length (row_of (take n (items_of bs)))) one_more, row-suc (items_of bs) c.args.b, ap length (items_there bs c.args.b x c.requires), c.len.ensures, (get_or bs c.args.b x).stretches.ok)
