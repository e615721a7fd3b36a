-- The goals of `spot_at` that are answered by hand.
use Rattle.std.proofs.Common.{ap, arith}
use Rattle.rga_tree.specs.Spot.{seen}
use Rattle.rga_tree.proofs.Seen.{visible_row}
use Rattle.rga_tree.proofs.plain.PlainSequence.spot_at.Goals as goal

pub place_of_visible-requires : goal.place_of_visible-requires
place_of_visible-requires c =
    let row = c.args.self.now.row.items in
    omega (arith, ap seen c.deref.ensures.value, visible_row row c.args.self.now.keeps_walk.in_order, c.requires)
