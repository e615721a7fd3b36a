-- The goal of `stands` that is answered by hand.
use Rattle.std.proofs.Common.{◌∙◌, sym}
use Rattle.std.proofs.lemmas.Bool.{OnTrue_from}
use Rattle.rga_runs.proofs.Spots.{found_somewhere}
use Rattle.rga_runs.proofs.row.stands.Goals as goal

pub returns-then-is_some-clause-yes : goal.returns-then-is_some-clause-yes
returns-then-is_some-clause-yes c =
    let f = c.recent_spot.ensures in
    OnTrue_from c.is_some.result _ (λ some. found_somewhere c.args.row.now c.args.id c.recent_spot.result (sym c.is_some.ensures ∙ some) f.block f.within f.inside f.there)
