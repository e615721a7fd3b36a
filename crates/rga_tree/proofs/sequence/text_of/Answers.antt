-- The goals of `text_of` that are answered by hand.
use Rattle.std.proofs.Common.{◌≡◌, ◌++◌, [], sym, ap, ◌∙◌, length, get_or, arith}
use Rattle.rga_tree.proofs.Texts.{bytes_of, bytes-part, bytes-whole}
use Rattle.rga_tree.proofs.sequence.text_of.Goals as goal

pub loop-p-preserved : goal.loop-p-preserved
loop-p-preserved g c =
    let parts = g.S.Sequence.parts c.args.seq.now in
    c.in_ok-push_part.ensures ∙ ap (λ t. t ++ bytes_of (get_or parts c.loop-p.p [])) c.loop-p.invariant ∙ sym (bytes-part parts c.loop-p.p)

pub returns : goal.returns
returns g c =
    let seq = c.args.seq.now in
    let parts = g.S.Sequence.parts seq in
    let all : c.loop-p.p ≡ length parts = omega (arith, c.part_count-p-end.ensures) in
    c.loop-p.invariant ∙ bytes-whole (g.S.Sequence.content seq) parts c.loop-p.p (g.met.S.Sequence.whole seq) all
