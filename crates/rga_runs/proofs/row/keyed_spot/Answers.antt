-- The goal of `keyed_spot` that is answered by hand.
use Rattle.std.proofs.Common.{◌≡◌, None, get_or, sym, ◌∙◌}
use Rattle.rga_runs.specs.BlockRows.{items_of, numbers_of}
use Rattle.rga_runs.specs.Keyed.{look_in}
use Rattle.rga_runs.specs.KeyRows.{keys_in}
use Rattle.rga_runs.proofs.Homes.{told, outside_blocks}
use Rattle.rga_runs.proofs.row.keyed_spot.Goals as goal

pub returns-in_err-key-clause-absent : goal.returns-in_err-key-clause-absent
returns-in_err-key-clause-absent c =
    let r = c.args.row.now in
    let bs = r.blocks.items in
    rw c.from_residual.ensures (outside_blocks (look_in (keys_in r.keys)) (items_of bs) (numbers_of bs) c.args.id c.requires.indexed.homes (λ b there f found.
    let both : None ≡ told f (get_or (numbers_of bs) b 0) = sym c.in_err-key.ensures.none ∙ found in
    absurd cc))
