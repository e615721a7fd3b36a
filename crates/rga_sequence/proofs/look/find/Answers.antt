-- The goals of `find` that are answered by hand.
use Rattle.std.proofs.Common.{◌+◌, refl}
use Rattle.rga_sequence.proofs.Seen.{visible_at}
use Rattle.rga_sequence.proofs.look.find.Goals as goal

pub returns : goal.returns
returns g c =
    let spot = c.find_spot.result in
    let found = c.find_spot.ensures in
    record {
      value = visible_at (g.L.Look.blocks c.args.row.now) c.args.k spot.0 spot.1 spot.2 found.place;
      looks = ((spot.0 + 1) + (spot.1 + 1), (spot.0, spot.1, found.place, refl), found.looks);
      content = found.content;
      aside = found.aside;
    }
