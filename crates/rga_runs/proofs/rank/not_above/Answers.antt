-- The goals of `not_above` that are answered by hand.
use Rattle.std.proofs.Common.{◌+◌, arith, rules}
use Rattle.std.proofs.lemmas.List.Sorted.{IsPartitionPoint-from_clause, IsPartitionedBy-leb}
use Rattle.std.proofs.lemmas.Bool.{leb-true, leb-false}
use Rattle.std.proofs.Math.Dec.{leb}
use Rattle.rga_runs.specs.declared.key.Key.{Key}
use Rattle.rga_runs.specs.Keyed.{rank}
use Rattle.rga_runs.proofs.rank.not_above.Goals as goal

pub returns-then-ends_not_above-clause-below : goal.returns-then-ends_not_above-clause-below
returns-then-ends_not_above-clause-below c = λ i d less.
    let e = c.if-ends_not_above.ensures in
    omega (arith, c.requires i c.saturating_sub-dense.result d (omega (arith, less)) e.there, e.below d, c.rank_of-last.ensures)

pub returns-then-ends_not_above-clause-above : goal.returns-then-ends_not_above-clause-above
returns-then-ends_not_above-clause-above c = λ i d from less.
    let e = c.if-ends_not_above.ensures in
    omega (arith, c.requires (c.saturating_sub-dense.result + 1) i d from less, e.above d (omega (arith, from, less)), c.rank_of-last.ensures)

pub returns-clause-below : goal.returns-clause-below
returns-clause-below c = λ i d less.
    let ks = c.args.keys.now in
    let r = rank c.args.id in
    let point = IsPartitionPoint-from_clause (λ (k : Key). leb (rank k.first) r) ks _ c.partition_point.ensures.partitioned (IsPartitionedBy-leb (λ (k : Key). rank k.first) ks r c.requires) (λ a b q k. search rules) in
    leb-true _ _ (point.0 i d (omega arith) less)

pub returns-clause-above : goal.returns-clause-above
returns-clause-above c = λ i d from less.
    let ks = c.args.keys.now in
    let r = rank c.args.id in
    let point = IsPartitionPoint-from_clause (λ (k : Key). leb (rank k.first) r) ks _ c.partition_point.ensures.partitioned (IsPartitionedBy-leb (λ (k : Key). rank k.first) ks r c.requires) (λ a b q k. search rules) in
    leb-false _ _ (point.1 i d from less)
