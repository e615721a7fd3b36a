-- The paragraph is there.
use Rattle.std.proofs.Common.{length, ap, arith}
use Rattle.std.proofs.lemmas.List.{length-map}
use Rattle.text_buffer.specs.Pieces.{seen}
use Rattle.text_buffer.specs.Blocks.{pieces_in}
use Rattle.text_buffer.proofs.Places.{length-points}
use Rattle.text_buffer.proofs.Founds.{found-there}
use Rattle.text_buffer.proofs.cursor.Cursor.number.Goals as goal

pub returns-clause-there : goal.returns-clause-there
returns-clause-there g c =
    let bs = c.self.inside.blocks.now in
    let f = c.self.inside.found in
    let s = c.self.invariant.found in
    let there = found-there bs f.block f.index f.number s.block s.inside s.number in
    omega (arith, there, length-points (pieces_in bs), length-map (pieces_in bs) seen, ap (λ v. length v.paragraphs) c.self.view_is, ap (λ v. v.number) c.self.view_is)
