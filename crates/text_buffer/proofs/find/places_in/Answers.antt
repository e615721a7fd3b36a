-- A block knows its count.
use Rattle.std.proofs.Common.{length, get_or, ap, ◌∙◌, sym}
use Rattle.std.specs.List.{concat}
use Rattle.text_buffer.specs.Pieces.{points_in}
use Rattle.text_buffer.proofs.Places.{row-get}
use Rattle.text_buffer.proofs.find.places_in.Goals as goal

pub returns : goal.returns
returns g c =
    let bs = c.args.blocks.now in
    let r = c.index-blocks-q.result in
    let x = get_or bs c.args.q r in
    x.places_is ∙ sym (ap (λ t. length (concat (points_in t))) (row-get bs c.args.q r c.requires))
