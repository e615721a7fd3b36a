-- The goals of `element` that are answered by hand.
use Rattle.std.proofs.Common.{◌≡◌, ◌<◌, ◌∙◌, [], true, false, Bool, ap, sym, refl, length, get_or, arith}
use Rattle.std.specs.Prelude.{slice_get}
use Rattle.rga_tree.proofs.Interface.{element_row, until, until_none, find-until, find_none, slice_get_joined, offset_less}
use Rattle.rga_sequence.specs.Blocks.{offset}
use Rattle.rga_sequence.specs.BlockRows.{items_of, has}
use Rattle.rga_sequence.specs.Indexed.{elements_in}
use Rattle.rga_sequence.proofs.Whole.{element_is}
use Rattle.rga_sequence.proofs.Numbers.{length-items}
use Rattle.rga_sequence.proofs.blocks.BlocksSequence.element.Goals as goal

pub returns-in_err-b : goal.returns-in_err-b
returns-in_err-b c =
    let row = elements_in c.args.self.now.row in
    c.from_residual.ensures ∙ sym (find_none c.args.id row c.in_err-b.ensures.absent) ∙ element_row row c.args.id c.args.self.now.keeps_walk

pub returns : goal.returns
returns c =
    let row = elements_in c.args.self.now.row in
    let bs = c.args.self.now.row.blocks.items in
    let xs = items_of bs in
    let b = c.in_ok-b.b in
    let at = c.in_ok-b.at in
    let len_xs : length xs ≡ length bs = length-items bs in
    let there : b < length xs = omega (arith, len_xs, c.in_ok-b.ensures.block, c.args.self.now.row.blocks.ok) in
    let within : at < length (get_or xs b []) = c.in_ok-b.ensures.within in
    let place : offset xs b at ≡ until c.args.id row = c.in_ok-b.ensures.place in
    let stands : has c.args.id row ≡ true = by_test (has c.args.id row) refl (λ absent. omega (arith, until_none c.args.id row absent, place, offset_less xs b at there within)) in
    sym (element_is bs b at c.index.result.now c.index-2.result.now within c.index.ensures c.index-2.ensures) ∙ sym (slice_get_joined xs b at there within)
    ∙ ap (slice_get row) place ∙ sym (find-until c.args.id row stands) ∙ element_row row c.args.id c.args.self.now.keeps_walk where
      by_test : (b : Bool) → has c.args.id (elements_in c.args.self.now.row) ≡ b → (has c.args.id (elements_in c.args.self.now.row) ≡ false → ⊥) → has c.args.id (elements_in c.args.self.now.row) ≡ true
      by_test true is never = is
      by_test false is never = absurd (never is)
