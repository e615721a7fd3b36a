-- All that fit, or none.
use Rattle.std.proofs.Common.{◌-◌, ◌*◌, ◌/◌, sym, ap, ◌∙◌, arith}
use Rattle.std.proofs.lemmas.Nat.{mul-le}
use Rattle.cell_grid.proofs.PieceCuts.{fitting-own, fitting-some, fitting-none}
use Rattle.cell_grid.proofs.piece.first_fitting.Goals as goal

pub overflow_mul-all : goal.overflow_mul-all
overflow_mul-all c =
    let wide = c.from-wide.ensures in
    let same = c.from.ensures in
    let most = c.requires.most in
    let all = mul-le c.args.count c.from.result 65_536 255 (omega arith) (omega arith) in
    omega arith

pub returns-then-all-from : goal.returns-then-all-from
returns-then-all-from c =
    let wide = ap (λ k. c.args.count * k) (c.from.ensures ∙ c.from-wide.ensures) in
    let room = c.from-2.ensures in
    fitting-own c.args.count c.args.columns c.args.room c.args.count (c.args.room - c.args.count * c.from.result) c.requires.some (omega arith) (omega arith)
    (ap (λ k. c.args.room - k) wide)

pub returns-then-wide-room : goal.returns-then-wide-room
returns-then-wide-room c =
    let wide = c.from-wide.ensures in
    fitting-none c.args.count c.args.columns c.args.room c.requires.some (omega arith)

pub returns : goal.returns
returns c =
    let w = c.from-wide.ensures in
    let wide = ap (λ k. c.args.count * k) (c.from.ensures ∙ c.from-wide.ensures) in
    let room = c.from-2.ensures in
    let many = c.from-3.ensures ∙ ap (λ k. c.args.room / k) c.from-wide.ensures in
    fitting-some c.args.count c.args.columns c.args.room c.from-3.result (c.args.room - c.args.room / c.from-wide.result * c.from-wide.result) (omega arith) (omega arith) many
    (ap (λ k. c.args.room - c.args.room / k * k) w ∙ sym (ap (λ k. c.args.room - k * c.args.columns) many))
