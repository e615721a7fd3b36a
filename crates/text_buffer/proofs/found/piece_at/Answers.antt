-- The paragraph of the block is the one among all.
use Rattle.text_buffer.proofs.Founds.{found-points, found-kept}
use Rattle.text_buffer.proofs.found.piece_at.Goals as goal

pub returns-clause-points : goal.returns-clause-points
returns-clause-points g c =
    let f = c.args.found in
    found-points c.args.blocks.now f.block f.index f.number c.requires.block c.requires.inside c.requires.number c.index-blocks-found.result c.index.result.now c.index.ensures

pub returns-clause-kept : goal.returns-clause-kept
returns-clause-kept g c =
    let f = c.args.found in
    found-kept c.args.blocks.now f.block f.index f.number c.requires.block c.requires.inside c.requires.number c.index-blocks-found.result c.index.result.now c.index.ensures
