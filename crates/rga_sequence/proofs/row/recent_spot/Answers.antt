-- The goals of `recent_spot` that are answered by hand.
use Rattle.std.proofs.Common.{◌≡◌, ◌<◌, true, length, rules, arith}
use Rattle.bg_types.specs.Identifier.{same_id}
use Rattle.rga_sequence.proofs.Spots.{stands_at}
use Rattle.rga_sequence.proofs.row.recent_spot.Goals as goal

pub returns-then-eq : goal.returns-then-eq
returns-then-eq c =
    let bs = c.args.row.now.blocks in
    let some : c.in_ok-p.p < length bs.items = omega (arith, c.in_ok-p.ensures.block, bs.ok) in
    let same : same_id c.args.id c.in_ok-p.last.id ≡ true = search rules in
    let it = stands_at bs.items c.in_ok-p.p c.in_ok-p.at c.in_ok-p.last c.args.id some c.in_ok-p.ensures.within c.in_ok-p.ensures.element same in
    record {
      stands = it.0;
      block = c.in_ok-p.ensures.block;
      within = c.in_ok-p.ensures.within;
      place = it.1 c.requires.distinct;
    }
