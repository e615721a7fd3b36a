-- A paragraph knows its count.
use Rattle.std.proofs.Common.{[], length, get_or, sym, ap, ◌∙◌}
use Rattle.std.proofs.lemmas.List.{get_or-map}
use Rattle.text_buffer.specs.Pieces.{points_of}
use Rattle.text_buffer.proofs.find.places_of.Goals as goal

pub returns : goal.returns
returns g c =
    let ps = c.args.pieces.now in
    let r = c.index-pieces-number.result in
    let p = get_or ps c.args.number r in
    p.counted ∙ sym (ap length (get_or-map points_of ps c.args.number r [] c.requires))
