-- The bytes of its text are those of its code points.
use Rattle.std.proofs.Common.{[], length, get_or, ap, arith}
use Rattle.std.proofs.lemmas.List.{get_or-map}
use Rattle.text_buffer.specs.Buffers.{bytes_in}
use Rattle.text_buffer.specs.Pieces.{points_of}
use Rattle.text_buffer.proofs.Sums.{bytes-piece}
use Rattle.text_buffer.proofs.find.bytes_of.Goals as goal

pub returns : goal.returns
returns g c =
    let ps = c.args.pieces.now in
    let r = c.index-pieces-number.result in
    let p = get_or ps c.args.number r in
    omega (arith, ap length c.as_str.ensures.value, bytes-piece p, ap bytes_in (get_or-map points_of ps c.args.number r [] c.requires))
