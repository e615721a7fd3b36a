-- The goals of `is_keyed` that are answered by hand.
use Rattle.std.proofs.Common.{◌≡◌, ◌∙◌, None, get_or, sym, ap, subst, arith, rules}
use Rattle.std.specs.Prelude.{All}
use Rattle.std.proofs.lemmas.Bool.{OnTrue_from}
use Rattle.bg_types.specs.Identifier.{Identifier}
use Rattle.rga_runs.specs.Stretches.{IsOutside}
use Rattle.rga_runs.specs.BlockRows.{items_of, numbers_of}
use Rattle.rga_runs.specs.Keyed.{look_in}
use Rattle.rga_runs.specs.KeyRows.{keys_in}
use Rattle.rga_runs.specs.Indexed.{stretches_in}
use Rattle.rga_runs.proofs.Homes.{told, outside_blocks}
use Rattle.rga_runs.proofs.Spots.{found_somewhere}
use Rattle.rga_runs.proofs.row.is_keyed.Goals as goal

-- what is found begins a stretch
pub returns-then-eq-clause-yes : goal.returns-then-eq-clause-yes
returns-then-eq-clause-yes c =
    let key = c.in-Some.key in
    let same : key.first ≡ c.args.id = search rules in
    let fits = key.counter in
    OnTrue_from c.eq.result _ (λ true_is out. c.requires.indexed.known c.args.id key.first key.number (omega (arith, fits, ap (λ (q : Identifier). q.counter) same)) c.in-Some.ensures.found
    (subst (λ q. All (IsOutside q) (stretches_in c.args.row.now)) (sym same) out))

pub returns-else-eq-clause-yes : goal.returns-else-eq-clause-yes
returns-else-eq-clause-yes c =
    let f = c.spot_by.ensures in
    OnTrue_from c.is_some.result _ (λ some. found_somewhere c.args.row.now c.args.id c.spot_by.result (sym c.is_some.ensures ∙ some) f.block f.within f.inside f.there)

pub returns-in-None-clause-no : goal.returns-in-None-clause-no
returns-in-None-clause-no c =
    let r = c.args.row.now in
    let bs = r.blocks.items in
    outside_blocks (look_in (keys_in r.keys)) (items_of bs) (numbers_of bs) c.args.id c.requires.indexed.homes (λ b there f found.
    let both : None ≡ told f (get_or (numbers_of bs) b 0) = sym c.in-None.ensures.none ∙ found in
    absurd cc)
