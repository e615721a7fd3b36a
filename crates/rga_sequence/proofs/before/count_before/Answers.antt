-- The goals of `count_before` that are answered by hand.
use Rattle.std.proofs.Common.{◌≡◌, ◌+◌, ◌∙◌, [], take, get_or, ap, sym, arith}
use Rattle.rga_sequence.specs.Blocks.{seen, seen_all}
use Rattle.rga_sequence.specs.BlockRows.{items_of}
use Rattle.rga_sequence.specs.declared.block.Block.{Block}
use Rattle.rga_sequence.proofs.InFront.{seen_all-within, before_within}
use Rattle.rga_sequence.proofs.Passing.{items_there}
use Rattle.rga_sequence.proofs.Summed.{sums-before}
use Rattle.rga_sequence.proofs.before.count_before.Goals as goal

pub total-requires : goal.total-requires
total-requires c =
    let bs = c.args.blocks.now in
    let b = c.args.b in
    let all = sums-before c.args.sums.now bs c.min-g.result b c.requires.sums (omega (arith, c.min-g.ensures)) (omega (arith, c.min-g.ensures)) in
    record { few = omega (arith, all, seen_all-within (items_of bs) b, c.requires.few) }

pub visible_in-requires : goal.visible_in-requires
visible_in-requires c =
    let bs = c.args.blocks.now in
    let b = c.args.b in
    let all = sums-before c.args.sums.now bs c.min-g.result b c.requires.sums (omega (arith, c.min-g.ensures)) (omega (arith, c.min-g.ensures)) in
    record { few = omega (arith, all, seen_all-within (items_of bs) b, c.requires.few) }

pub overflow_add-before : goal.overflow_add-before
overflow_add-before c =
    let bs = c.args.blocks.now in
    let b = c.args.b in
    let all = sums-before c.args.sums.now bs c.min-g.result b c.requires.sums (omega (arith, c.min-g.ensures)) (omega (arith, c.min-g.ensures)) in
    omega (arith, all, c.total.ensures, c.visible_in.ensures, seen_all-within (items_of bs) b, c.requires.few)

pub returns : goal.returns
returns c =
    let bs = c.args.blocks.now in
    let b = c.args.b in
    let x = c.index-blocks-b.result in
    let all = sums-before c.args.sums.now bs c.min-g.result b c.requires.sums (omega (arith, c.min-g.ensures)) (omega (arith, c.min-g.ensures)) in
    let items = ap (λ (y : Block). seen (take c.args.at y.elements.items)) c.index-blocks-b.is ∙ ap (λ es. seen (take c.args.at es)) (sym (items_there bs b x c.requires.block)) in
    omega (arith, all, c.total.ensures, c.visible_in.ensures, c.in_front.ensures, items)

pub overflow_add-result : goal.overflow_add-result
overflow_add-result c =
    let sum : c.total.result + c.visible_in.result + c.in_front.result ≡ seen_all (take c.args.b (items_of c.args.blocks.now)) + seen (take c.args.at (get_or (items_of c.args.blocks.now) c.args.b [])) = returns c in
    omega (arith, sum, before_within (items_of c.args.blocks.now) c.args.b c.args.at, c.requires.few)
