-- The goals of `in_front` that are answered by hand.
use Rattle.std.proofs.Common.{◌≡◌, sym, length, arith}
use Rattle.rga_sequence.specs.Blocks.{seen}
use Rattle.rga_sequence.proofs.InFront.{all_before}
use Rattle.rga_sequence.proofs.before.in_front.Goals as goal

pub returns-then-block-len : goal.returns-then-block-len
returns-then-block-len c =
    let x = c.args.block.now in
    let all : seen x.elements.items ≡ length x.elements.items = omega (arith, x.counted, c.if-block-len.true, c.len.ensures, x.elements.ok) in
    sym (all_before x.elements.items c.args.at all c.requires)
