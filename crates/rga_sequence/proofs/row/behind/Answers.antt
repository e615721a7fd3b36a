-- The goals of `behind` that are answered by hand.
use Rattle.std.proofs.Common.{◌≤◌, ◌+◌, length, subst, arith}
use Rattle.bg_types.specs.declared.op.Place.{Place}
use Rattle.rga_tree.specs.Row.{start_of}
use Rattle.rga_sequence.specs.Few.{few_items}
use Rattle.rga_sequence.specs.Indexed.{elements_in}
use Rattle.rga_tree.proofs.Interface.{until}
use Rattle.rga_sequence.proofs.Spots.{some_spot}
use Rattle.rga_sequence.proofs.row.behind.Goals as goal

pub unwrap-p-requires : goal.unwrap-p-requires
unwrap-p-requires c =
    let es = elements_in c.args.row.now in
    let there : until c.in-After.above es + 1 ≤ length es = subst (λ (p : Place). start_of p es ≤ length es) c.in-After.is c.requires.parent in
    some_spot c.indexed_spot.result c.in-After.above es c.indexed_spot.ensures.absent there

pub overflow_add-result : goal.overflow_add-result
overflow_add-result c =
    let within = rw c.unwrap-p.ensures at c.indexed_spot.ensures.within in
    let few = few_items c.args.row.now.blocks.items c.unwrap-p.result.0 in
    omega (arith, within, few)
