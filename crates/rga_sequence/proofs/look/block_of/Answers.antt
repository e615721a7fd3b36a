-- The goals of `block_of` that are answered by hand.
use Rattle.std.proofs.Common.{◌≤◌, ◌+◌, ◌∙◌, ap, get_or, [], arith}
use Rattle.rga_sequence.specs.Blocks.{seen}
use Rattle.rga_sequence.proofs.Seen.{block_more, seen_all-more}
use Rattle.rga_sequence.proofs.look.block_of.Goals as goal

pub header-visible-requires-in-loop-visible-clause-there : goal.header-visible-requires-in-loop-visible-clause-there
header-visible-requires-in-loop-visible-clause-there g c =
    let i = c.loop-visible.invariant in
    let bs = g.L.Look.blocks c.args.row.now in
    let past : seen (get_or bs c.loop-visible.b []) ≤ c.loop-visible.left = omega (arith, i.visible, c.loop-visible-test.true) in
    rw i.same (block_more bs c.loop-visible.b c.loop-visible.left i.there (omega (arith, i.before, c.requires.there)) past)

pub header-visible-requires-in-loop-visible-clause-room : goal.header-visible-requires-in-loop-visible-clause-room
header-visible-requires-in-loop-visible-clause-room g c =
    let i = c.loop-visible.invariant in
    let bs = g.L.Look.blocks c.args.row.now in
    let past : seen (get_or bs c.loop-visible.b []) ≤ c.loop-visible.left = omega (arith, i.visible, c.loop-visible-test.true) in
    let more = block_more bs c.loop-visible.b c.loop-visible.left i.there (omega (arith, i.before, c.requires.there)) past in
    omega (arith, i.looks, c.requires.room, more)

pub loop-visible-preserved : goal.loop-visible-preserved
loop-visible-preserved g c =
    let i = c.loop-visible.invariant in
    let bs = g.L.Look.blocks c.args.row.now in
    let past : seen (get_or bs c.loop-visible.b []) ≤ c.loop-visible.left = omega (arith, i.visible, c.loop-visible-test.true) in
    let header = c.header-visible-in-loop-visible.ensures in
    record {
      same = header.content ∙ i.same;
      aside = header.aside ∙ i.aside;
      there = block_more bs c.loop-visible.b c.loop-visible.left i.there (omega (arith, i.before, c.requires.there)) past;
      visible = header.value ∙ ap (λ x. seen (get_or x (c.loop-visible.b + 1) [])) i.same;
      before = omega (arith, seen_all-more bs c.loop-visible.b, i.before, i.visible, past);
      looks = omega (arith, header.looks, i.looks);
    }
