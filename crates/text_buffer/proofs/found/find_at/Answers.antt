-- The spot is in the paragraph.
use Rattle.std.proofs.Common.{take, arith}
use Rattle.text_buffer.specs.Blocks.{rows_of, joined, texts_in}
use Rattle.text_buffer.proofs.Places.{length-points}
use Rattle.text_buffer.proofs.Spots.{paragraph-of}
use Rattle.text_buffer.proofs.found.find_at.Goals as goal

pub returns-clause-found : goal.returns-clause-found
returns-clause-found g c =
    let at = c.spot_at.ensures in
    let spot = at.spot in
    record {
      block = at.stands.within;
      inside = omega (arith, at.here, at.first);
      number = omega (arith, at.first, at.stands.paragraphs, length-points (joined (take c.spot_at.result.0.block (rows_of c.args.blocks.now))));
      bytes = spot.bytes;
      places = omega (arith, spot.place_is);
    }

pub returns-clause-number : goal.returns-clause-number
returns-clause-number g c = paragraph-of (texts_in c.args.blocks.now) c.args.place c.spot_at.result.1 c.spot_at.ensures.spot
