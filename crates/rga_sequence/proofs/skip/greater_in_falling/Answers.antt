-- The goals of `greater_in_falling` that are answered by hand.
use Rattle.std.proofs.Common.{◌≡◌, ◌<◌, ◌-◌, ◌∙◌, true, false, length, get_or, sym, arith, rules}
use Rattle.std.proofs.lemmas.List.Sorted.{IsPartitionPoint-from_clause}
use Rattle.std.proofs.lemmas.List.Sums.{prefix_len_is}
use Rattle.bg_types.specs.declared.op.Place.TheVariants.{Root}
use Rattle.rga_tree.specs.declared.element.Element.{Element}
use Rattle.rga_sequence.proofs.Falling.{falls-parted}
use Rattle.rga_tree.proofs.Interface.{is_greater}
use Rattle.rga_sequence.proofs.skip.greater_in_falling.Goals as goal

pub returns-clause-count : goal.returns-clause-count
returns-clause-count c =
    let row = c.args.row.now in
    let id = c.args.id in
    let any : Element = record { id = id; parent = Root; ch = 0; hidden = false } in
    let point = IsPartitionPoint-from_clause (is_greater id) row _ c.partition_point.ensures.partitioned (falls-parted row id c.requires) (λ a r q k. search rules) in
    sym (prefix_len_is (is_greater id) row c.partition_point.result any c.partition_point.ensures.bound (λ k less. point.0 k any (omega arith) less) (λ less. point.1 c.partition_point.result any (omega arith) less))

pub returns-then-is_below-clause-count : goal.returns-then-is_below-clause-count
returns-then-is_below-clause-count c =
    let row = c.args.row.now in
    let id = c.args.id in
    let n = length row in
    let last = c.index-row-count.result in
    let some : n - 1 < n = omega (arith, c.if-count-gt0.true) in
    let high : is_greater id (get_or row (n - 1) last) ≡ true = sym c.is_below.ensures ∙ c.if-is_below.true in
    sym (prefix_len_is (is_greater id) row n last (omega arith) (λ k less. falls-parted row id c.requires k (n - 1) last (omega (arith, less)) some high) (λ less. absurd (omega (arith, less))))
