-- The goals of `add` that are answered by hand.
use Rattle.std.proofs.Common.{◌≡◌, ◌≤◌, ◌+◌, ◌-◌, ◌*◌, ◌∙◌, length, refl, sym, ap, subst, arith}
use Rattle.rga_runs.specs.BlockRows.{items_of}
use Rattle.rga_runs.specs.Sums.{AreSums, visible_from}
use Rattle.rga_runs.proofs.BlockLists.{length-items}
use Rattle.rga_runs.proofs.Summed.{visible_among-read, visible_among-within, sums-added}
use Rattle.rga_runs.proofs.counts.add.Goals as goal

pub visible_in_blocks-visible-requires : goal.visible_in_blocks-visible-requires
visible_in_blocks-visible-requires c =
    let bs = c.args.blocks.now in
    let g = c.len-first.result in
    record { few = omega (arith, visible_among-read bs g (32 * g) (32 * g + 32 - 32 * g) refl (omega arith), visible_among-within (items_of bs) g, c.requires.few) }

pub returns-then-len-capacity : goal.returns-then-len-capacity
returns-then-len-capacity c =
    let bs = c.args.blocks.now in
    let xs = items_of bs in
    let ss = c.args.sums.now.items in
    let g = c.len-first.result in
    let long : g ≡ length ss = omega (arith, c.len-first.ensures, c.args.sums.now.ok) in
    let many : 32 * (length ss + 1) ≤ length xs = omega (arith, long, c.if-len-whole.true, c.len.ensures, c.args.sums.now.ok, length-items bs) in
    let is : c.visible_in_blocks-visible.result ≡ visible_from xs (32 * length ss) 32 =
    c.visible_in_blocks-visible.ensures ∙ visible_among-read bs g (32 * g) (32 * g + 32 - 32 * g) refl (omega arith) ∙ ap (λ k. visible_from xs (32 * k) 32) long in
    subst (λ l. AreSums l xs) (sym c.push_reserved.ensures.items) (sums-added ss xs c.visible_in_blocks-visible.result many is c.requires.sums)
