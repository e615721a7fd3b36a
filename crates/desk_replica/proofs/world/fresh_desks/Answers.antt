-- The goals of `fresh_desks` that are answered by hand.
use Rattle.std.proofs.Common.{◌≡◌, ◌<◌, ◌+◌, ℕ, List, [], ◌∷◌, ◌++◌, length, get_or, take, take_all, sym, ap, ◌∙◌}
use Rattle.std.specs.Prelude.{map as each}
use Rattle.std.proofs.lemmas.List.{map_more}
use Rattle.std.proofs.lemmas.List.Elements.{All-get_or}
use Rattle.desk_replica.specs.Desk.{Desk, fresh}
use Rattle.desk_replica.proofs.world.fresh_desks.Goals as goal

one_more : (sites : List ℕ) (i : ℕ) (desks : List Desk) (desk : Desk) → i < length sites → desks ≡ each fresh (take i sites) → desk ≡ fresh (get_or sites i 0) → desks ++ desk ∷ [] ≡ each fresh (take (i + 1) sites)
one_more sites i desks desk lt so_far new =
    ap (λ d. desks ++ d ∷ []) new ∙ ap (λ ds. ds ++ fresh (get_or sites i 0) ∷ []) so_far ∙ sym (map_more fresh sites i 0 lt)

pub new-desk-requires-clause-site : goal.new-desk-requires-clause-site
new-desk-requires-clause-site g c = All-get_or (λ site. 0 < site) c.args.sites.now c.loop-site.site-index 0 c.loop-site-test.true c.requires

pub loop-site-preserved : goal.loop-site-preserved
loop-site-preserved g c =
    c.in_ok-push.ensures.items
    ∙ one_more c.args.sites.now c.loop-site.site-index c.loop-site.desks.items c.new-desk.result c.loop-site-test.true c.loop-site.invariant c.new-desk.ensures

pub returns : goal.returns
returns g c = c.loop-site.invariant ∙ ap (each fresh) (take_all c.loop-site.site-index c.args.sites.now c.loop-site-test.false)
