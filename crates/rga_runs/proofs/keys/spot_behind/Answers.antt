-- The goals of `spot_behind` that are answered by hand.
use Rattle.std.proofs.Common.{◌<◌, ◌+◌, [], length, get_or, ap, arith}
use Rattle.rga_runs.specs.declared.key.Key.{Key}
use Rattle.rga_runs.specs.Keyed.{rank}
use Rattle.rga_runs.specs.Leaves.{keys_of}
use Rattle.rga_runs.proofs.Chunks.{at, get_or_row, at_less, one_there}
use Rattle.rga_runs.proofs.LeafRows.{length-keys, keys_there}
use Rattle.rga_runs.proofs.keys.spot_behind.Goals as goal

pub overflow_add-result : goal.overflow_add-result
overflow_add-result c =
    let ls = c.args.leaves.now in
    let e = c.if-ends_in.ensures in
    let l = one_there ls c.args.leaf e.leaf in
    let few = (get_or ls c.args.leaf l).few in
    omega (arith, e.within, ap length (keys_there ls c.args.leaf l e.leaf), (get_or ls c.args.leaf l).keys.ok, few)

pub returns-then-ends_in-clause-below : goal.returns-then-ends_in-clause-below
returns-then-ends_in-clause-below c = λ i d less.
    let ls = c.args.leaves.now in
    let xs = keys_of ls in
    let b = c.args.leaf in
    let j = c.args.likely in
    let e = c.if-ends_in.ensures in
    let there : b < length xs = omega (arith, e.leaf, length-keys ls) in
    let within : j < length (get_or xs b []) = omega (arith, e.within) in
    let item = ap (λ (k : Key). rank k.first) (get_or_row xs b j d there within) in
    let step = c.requires.rising i (at xs b j) d (omega (arith, less)) (at_less xs b j there within) in
    omega (arith, item, step, e.below d, c.rank_of.ensures)

pub returns-then-ends_in-clause-above : goal.returns-then-ends_in-clause-above
returns-then-ends_in-clause-above c = λ i d from less.
    let ls = c.args.leaves.now in
    let xs = keys_of ls in
    let b = c.args.leaf in
    let next = c.args.likely + 1 in
    let e = c.if-ends_in.ensures in
    let there : b < length xs = omega (arith, e.leaf, length-keys ls) in
    let item = ap (λ (k : Key). rank k.first) (get_or_row xs b next d there e.within) in
    let step = c.requires.rising (at xs b next) i d from less in
    omega (arith, item, step, e.above d, c.rank_of.ensures)
