-- The goals of `visible_in` that are answered by hand.
use Rattle.std.proofs.Common.{◌≤◌, ◌-◌, length, drop, length-drop, arith}
use Rattle.std.proofs.lemmas.List.{length-take-le}
use Rattle.rga_sequence.proofs.Nth.{all_visible}
use Rattle.rga_sequence.proofs.counted.visible_in.Goals as goal

pub returns-then-visible-row : goal.returns-then-visible-row
returns-then-visible-row c =
    let row = c.args.row.now in
    let from = c.args.from in
    let n = c.args.to - from in
    let many : n ≤ length (drop from row) = omega (arith, length-drop from row, c.requires.there) in
    record {
      visible = omega (arith, all_visible row from n (omega (arith, c.requires.visible, c.if-visible-row.true)), length-take-le n (drop from row) many, c.requires.order);
      looks = omega (arith, c.requires.order);
    }
