-- The goals of `greater_neighbours` that are answered by hand.
use Rattle.std.proofs.Common.{◌≡◌, ℕ, ◌+◌, ◌/◌, ◌-◌, ◌<◌, ◌≤◌, ◌∙◌, true, ap, sym, take, drop, get_or, length, length-drop, arith}
use Rattle.std.specs.List.{prefix_len}
use Rattle.std.proofs.lemmas.List.{take_rest, drop-drop, get_or-drop, length-take-le}
use Rattle.std.proofs.lemmas.List.Sums.{prefix_len-le-length}
use Rattle.rga_runs.specs.declared.block.Block.{Block}
use Rattle.rga_tree.proofs.Interface.{stops_early, goes_on}
use Rattle.rga_runs.proofs.Neighbours.{bounds-pass}
use Rattle.rga_runs.proofs.Passed.{is_passed, passed_over}
use Rattle.rga_runs.proofs.skip.passed_neighbours.Goals as goal

pub returns-then-near-end-clause-count : goal.returns-then-near-end-clause-count
returns-then-near-end-clause-count c =
    let bs = c.args.blocks.now in
    let rest = drop c.args.p bs in
    let n = c.min-end.result - c.args.p in
    let t = is_passed c.args.id in
    let counted : c.passed_in_front-near.result ≡ prefix_len t (take n rest) = c.passed_in_front-near.ensures.count in
    let many : n ≤ length rest = omega (arith, c.min-end.ensures, length-drop c.args.p bs) in
    counted ∙ sym (stops_early t rest n many (omega (arith, counted, c.if-near-end.true)))

pub returns-clause-count : goal.returns-clause-count
returns-clause-count c =
    let bs = c.args.blocks.now in
    let p = c.args.p in
    let end = c.min-end.result in
    let far = c.max-far.result in
    let rest = drop p bs in
    let n = end - p in
    let t = is_passed c.args.id in
    let counted : c.passed_in_front-near.result ≡ prefix_len t (take n rest) = c.passed_in_front-near.ensures.count in
    let many : n ≤ length rest = omega (arith, c.min-end.ensures, length-drop p bs) in
    let whole : prefix_len t (take n rest) ≡ n = omega (arith, counted, c.if-near-end.false, prefix_len-le-length t (take n rest), length-take-le n rest many) in
    let end_is : p + n ≡ end = omega (arith, c.min-end.ensures, c.requires.within) in
    let near : prefix_len t rest ≡ n + prefix_len t (drop end bs) = goes_on t rest n many whole ∙ ap (λ r. n + prefix_len t r) (drop-drop n p bs) ∙ ap (λ m. n + prefix_len t (drop m bs)) end_is in
    let m = far - end in
    let far_is : end + m ≡ far = omega (arith, c.max-far.ensures) in
    let later = drop end bs in
    let all : (k : ℕ) (d : Block) → k < m → t (get_or later k d) ≡ true = λ k d less.
    ap t (get_or-drop end bs k d)
    ∙ bounds-pass c.args.bounds.now bs (p / 32 + 1) (end + k) c.args.id d c.requires.bounds
    (omega (arith, less, far_is, c.max-far.ensures, c.min-passed.ensures, c.min-end.ensures))
    (omega (arith, less, far_is, c.max-far.ensures, c.min-passed.ensures, c.min-end.ensures))
    (omega (arith, less, far_is, c.max-far.ensures, c.min-passed.ensures, c.min-end.ensures, c.greater_bounds.ensures.count)) in
    let passed : prefix_len t later ≡ m + prefix_len t (drop far bs) =
    passed_over t later m (omega (arith, length-drop end bs, c.max-far.ensures, c.min-passed.ensures, c.min-end.ensures)) all
    ∙ ap (λ r. m + prefix_len t r) (drop-drop m end bs) ∙ ap (λ i. m + prefix_len t (drop i bs)) far_is in
    let last : c.passed_in_front.result ≡ prefix_len t (drop far bs) = c.passed_in_front.ensures.count ∙ ap (prefix_len t) (take_rest bs far) in
    omega (arith, near, passed, last, end_is, far_is)
