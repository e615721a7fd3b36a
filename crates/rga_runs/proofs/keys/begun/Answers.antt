-- The goals of `begun` that are answered by hand.
use Rattle.std.proofs.Common.{◌<◌, ◌+◌, length, ap, arith, rules}
use Rattle.std.proofs.lemmas.List.Sorted.{IsPartitionPoint-from_clause, IsPartitionedBy-leb}
use Rattle.std.proofs.lemmas.Bool.{leb-true, leb-false}
use Rattle.std.proofs.Math.Dec.{leb}
use Rattle.rga_runs.specs.declared.leaf.Leaf.{Leaf}
use Rattle.rga_runs.specs.Keyed.{rank, begins}
use Rattle.rga_runs.proofs.Chunks.{one_there}
use Rattle.rga_runs.proofs.LeafRows.{keys_there, leaves_rise, begins_rise}
use Rattle.rga_runs.proofs.keys.begun.Goals as goal

pub returns-then-ends_begun-clause-below : goal.returns-then-ends_begun-clause-below
returns-then-ends_begun-clause-below c = λ i less.
    let e = c.if-ends_begun.ensures in
    omega (arith, begins_rise c.args.leaves.now c.requires i c.args.likely (omega (arith, less)) e.there, e.below)

pub returns-then-ends_begun-clause-above : goal.returns-then-ends_begun-clause-above
returns-then-ends_begun-clause-above c = λ i from less.
    let e = c.if-ends_begun.ensures in
    omega (arith, begins_rise c.args.leaves.now c.requires (c.args.likely + 1) i from less, e.above (omega (arith, from, less)))

pub returns-clause-below : goal.returns-clause-below
returns-clause-below c = λ i less.
    let ls = c.args.leaves.now in
    let r = rank c.args.id in
    let there : i < length ls = omega (arith, less, c.partition_point.ensures.bound) in
    let d = one_there ls i there in
    let point = IsPartitionPoint-from_clause (λ (l : Leaf). leb (begins l.keys.items) r) ls _ c.partition_point.ensures.partitioned (IsPartitionedBy-leb (λ (l : Leaf). begins l.keys.items) ls r (leaves_rise ls c.requires)) (λ a b q k. search rules) in
    omega (arith, ap begins (keys_there ls i d there), leb-true _ _ (point.0 i d (omega arith) less))

pub returns-clause-above : goal.returns-clause-above
returns-clause-above c = λ i from less.
    let ls = c.args.leaves.now in
    let r = rank c.args.id in
    let d = one_there ls i less in
    let point = IsPartitionPoint-from_clause (λ (l : Leaf). leb (begins l.keys.items) r) ls _ c.partition_point.ensures.partitioned (IsPartitionedBy-leb (λ (l : Leaf). begins l.keys.items) ls r (leaves_rise ls c.requires)) (λ a b q k. search rules) in
    omega (arith, ap begins (keys_there ls i d less), leb-false _ _ (point.1 i d from less))
