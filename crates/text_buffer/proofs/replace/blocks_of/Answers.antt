-- A block more is one more in front of those that were taken from the end.
use Rattle.std.proofs.Common.{◌≡◌, ◌++◌, reverse, sym, ap, ap₂, ◌∙◌, arith}
use Rattle.std.proofs.lemmas.List.{append_assoc, take-append-drop}
use Rattle.std.specs.List.{concat}
use Rattle.text_buffer.specs.Buffers.{bytes_in}
use Rattle.text_buffer.specs.Pieces.{points_in}
use Rattle.text_buffer.specs.Blocks.{pieces_in}
use Rattle.text_buffer.proofs.Sums.{bytes-both}
use Rattle.text_buffer.proofs.Places.{kept-reverse}
use Rattle.text_buffer.proofs.replace.blocks_of.Goals as goal

pub of-requires-clause-few : goal.of-requires-clause-few
of-requires-clause-few g c =
    let left = c.loop-left.left.items in
    let rest = c.split_off.new.self.items in
    let last = c.in_ok-last.last.items in
    let both : rest ++ last ≡ left = ap₂ (λ x y. x ++ y) c.in_ok-last.ensures.items c.in_ok-last.ensures.tail ∙ take-append-drop _ left in
    let all = ap (λ t. bytes_in (concat (points_in t))) c.loop-left.invariant.kept in
    let parted = sym (ap (λ t. bytes_in (concat (points_in t))) both) ∙ bytes-both rest last in
    omega (arith, all, bytes-both left (pieces_in (reverse c.loop-left.blocks.items)), parted, c.requires.few)

pub loop-left-preserved : goal.loop-left-preserved
loop-left-preserved g c =
    let left = c.loop-left.left.items in
    let rest = c.split_off.new.self.items in
    let last = c.in_ok-last.last.items in
    let before = pieces_in (reverse c.loop-left.blocks.items) in
    let both : rest ++ last ≡ left = ap₂ (λ x y. x ++ y) c.in_ok-last.ensures.items c.in_ok-last.ensures.tail ∙ take-append-drop _ left in
    let row = ap (λ v. v.items) c.of.ensures in
    record {
      some = omega (arith, c.in_ok-last.ensures.len, c.loop-left-test.true, c.loop-left.invariant.some);
      kept = ap (λ t. rest ++ t) (ap (λ bs. pieces_in (reverse bs)) c.in_ok-push.ensures.items ∙ kept-reverse c.loop-left.blocks.items c.of.result ∙ ap (λ t. t ++ before) row)
          ∙ sym (append_assoc rest last before) ∙ ap (λ t. t ++ before) both ∙ c.loop-left.invariant.kept;
    }

pub of-requires-2-clause-few : goal.of-requires-2-clause-few
of-requires-2-clause-few g c =
    let left = c.loop-left.left.items in
    let all = ap (λ t. bytes_in (concat (points_in t))) c.loop-left.invariant.kept in
    omega (arith, all, bytes-both left (pieces_in (reverse c.loop-left.blocks.items)), ap (λ t. bytes_in (concat (points_in t))) c.shrink_to_fit.ensures.items, c.requires.few)
