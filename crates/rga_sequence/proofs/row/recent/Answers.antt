-- The goals of `recent` that are answered by hand.
use Rattle.std.proofs.Common.{◌≡◌, ◌<◌, ◌∙◌, List, sym, ap, length, get_or, arith}
use Rattle.std.proofs.lemmas.Bool.{ltb-true}
use Rattle.rga_tree.specs.declared.element.Element.{Element}
use Rattle.rga_sequence.specs.declared.block.Block.{Block}
use Rattle.rga_sequence.proofs.Spots.{read_at}
use Rattle.rga_sequence.proofs.row.recent.Goals as goal

pub returns : goal.returns
returns c =
    let row = c.args.row.now in
    let block = c.in_ok-block.block.now in
    let e = c.in_ok-last.last.now in
    let lent = c.deref.ensures.value in
    let lent-2 = c.deref-2.ensures.value in
    let some : row.recent < length row.blocks.items = omega (arith, ltb-true _ _ (sym c.in_ok-block.ensures.lookup.0), ap length lent) in
    let block_is : block ≡ get_or row.blocks.items row.recent block = c.in_ok-block.ensures.lookup.1 ∙ ap (λ (bs : List Block). get_or bs row.recent block) lent in
    let inside : block.recent < length block.elements.items = omega (arith, ltb-true _ _ (sym c.in_ok-last.ensures.lookup.0), ap length lent-2) in
    let e_is : e ≡ get_or block.elements.items block.recent e = c.in_ok-last.ensures.lookup.1 ∙ ap (λ (es : List Element). get_or es block.recent e) lent-2 in
    let read = read_at row.blocks.items row.recent block.recent block e some block_is inside e_is in
    record {
      block = omega (arith, some, row.blocks.ok);
      within = read.within;
      element = read.element;
    }
