-- As many clusters as are alike, cut where columns hang.
use Rattle.std.proofs.Common.{◌+◌, ◌≤◌, get_or, arith}
use Rattle.cell_grid.proofs.PieceCuts.{reach-one, first-piece}
use Rattle.cell_grid.proofs.piece.first_piece.Goals as goal

pub of-span-requires : goal.of-span-requires
of-span-requires c =
    let run = c.args.run in
    let some : 0 + 1 ≤ run.count = omega (arith, c.requires.some, c.requires.most) in
    let bytes = reach-one run.first_byte run.bytes 0 run.count some c.requires.within.bytes in
    let places = reach-one run.first_place run.points 0 run.count some c.requires.within.places in
    record { bytes = omega arith; places = omega arith; end_byte = omega arith; end_place = omega arith }

pub returns : goal.returns
returns c =
    let fit = c.first_fitting-fit.result in
    let few = c.alike-alike.ensures.most in
    let most = c.min-most.ensures in
    let some = c.first_fitting-fit.ensures.some in
    let more = c.of-span.ensures.further in
    first-piece c.args.run c.args.levels.now c.args.room c.requires.within (get_or c.args.levels.now 0 0) c.args.most c.alike-alike.result fit (omega arith) c.requires.most
    c.first_fitting-fit.ensures c.alike-alike.ensures.level c.of-span.result c.of-span.ensures.span (omega arith)
