-- The goals of `find_spot` that are answered by hand.
use Rattle.std.proofs.Common.{◌∙◌, ap, sym, arith, take, get_or, []}
use Rattle.std.specs.Prelude.{slice_get}
use Rattle.rga_sequence.specs.Blocks.{seen}
use Rattle.rga_sequence.proofs.look.find_spot.Goals as goal

pub returns : goal.returns
returns g c =
    let first = c.block_of-b.ensures in
    let second = c.element_of-at.ensures in
    let b = c.block_of-b.result.0 in
    let j = c.element_of-at.result.0 in
    let same = first.content in
    record {
      place = record {
        there = ap (λ x. slice_get (get_or x b []) j) (sym same) ∙ second.there;
        visible = second.visible;
        before = omega (arith, first.before, ap (λ x. seen (take j (get_or x b []))) (sym same) ∙ second.before);
      };
      looks = omega (arith, first.looks, second.looks);
      content = second.content ∙ same;
      aside = second.aside ∙ first.aside;
    }
