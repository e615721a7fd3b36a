-- A product of numbers of 9 and 8 bits.
use Rattle.std.proofs.Common.{◌≤◌, ◌+◌, ◌*◌, ap, ◌∙◌, arith}
use Rattle.std.proofs.lemmas.Nat.{mul-le}
use Rattle.cell_grid.proofs.cluster_run.ClusterRun.all_columns.Goals as goal

pub overflow_mul-result : goal.overflow_mul-result
overflow_mul-result c =
    let count : c.from-count.result + 1 ≤ 65536 = omega arith in
    let columns : c.from-columns.result ≤ 255 = omega arith in
    let most = mul-le (c.from-count.result + 1) c.from-columns.result 65536 255 count columns in
    omega arith

pub returns : goal.returns
returns c = ap (λ n. (n + 1) * c.from-columns.result) c.from-count.ensures ∙ ap (λ n. (c.args.self.now.span.further + 1) * n) c.from-columns.ensures
