-- The first places of rows never fall, and row 0 begins by the place.
use Rattle.std.proofs.Common.{rules, sym}
use Rattle.std.specs.Prelude.{nat_le}
use Rattle.std.proofs.lemmas.List.Sorted.{IsPartitionPoint-from_clause, IsPartitionedBy-leb}
use Rattle.cell_grid.specs.Rows.{DrawnRow}
use Rattle.caret.proofs.RowOrder.{Splits, rises-ordered, row_at-splits, some-splits}
use Rattle.caret.proofs.place.row_at.Goals as goal

pub overflow_sub-result : goal.overflow_sub-result
overflow_sub-result c =
    let splits : Splits c.args.rows.now c.args.place c.partition_point-count.result =
    IsPartitionPoint-from_clause (λ (r : DrawnRow). nat_le r.first_place c.args.place) _ _
    c.partition_point-count.ensures.partitioned
    (IsPartitionedBy-leb (λ (r : DrawnRow). r.first_place) c.args.rows.now c.args.place (rises-ordered c.args.rows.now c.requires.rises))
    (λ a r q k. search rules) in
    some-splits _ _ c.args.rows.now c.requires.begun splits

pub returns-clause-number : goal.returns-clause-number
returns-clause-number c =
    let splits : Splits c.args.rows.now c.args.place c.partition_point-count.result =
    IsPartitionPoint-from_clause (λ (r : DrawnRow). nat_le r.first_place c.args.place) _ _
    c.partition_point-count.ensures.partitioned
    (IsPartitionedBy-leb (λ (r : DrawnRow). r.first_place) c.args.rows.now c.args.place (rises-ordered c.args.rows.now c.requires.rises))
    (λ a r q k. search rules) in
    sym (row_at-splits c.args.place _ c.args.rows.now c.requires.begun c.partition_point-count.ensures.bound splits)
