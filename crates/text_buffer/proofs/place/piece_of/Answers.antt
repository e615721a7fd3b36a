-- The paragraph among all is that of its block.
use Rattle.std.proofs.Common.{get_or, refl, sym}
use Rattle.text_buffer.proofs.Places.{found-text}
use Rattle.text_buffer.proofs.place.piece_of.Goals as goal

pub returns : goal.returns
returns g c =
    let bs = c.args.blocks.now in
    let b = c.args.before in
    let r = c.index-blocks-before.result in
    sym (found-text bs b (get_or bs b.block r) r c.index.result.now c.args.number c.requires.stands refl c.requires.reached c.requires.here c.index.ensures)
