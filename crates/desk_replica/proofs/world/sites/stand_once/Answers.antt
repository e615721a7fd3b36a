-- The goals of `stand_once` that are answered by hand.
use Rattle.std.proofs.Common.{◌≡◌, ℕ, Bool, sym, subst, ◌∙◌, rules}
use Rattle.std.specs.Bool.{Decides}
use Rattle.std.specs.Ordering.{nat_cmp, eq_by_cmp}
use Rattle.std.specs.BTreeSet.{IsFromIterResult}
use Rattle.std.specs.Cmp.{unsigned_Decides, unsigned_ties}
use Rattle.std.proofs.lemmas.Cmp.{eq_by_cmp_equiv, nat_cmp_total}
use Rattle.std.proofs.lemmas.Bool.{eqb-true, eq-eqb}
use Rattle.std.proofs.lemmas.Map.Made.{IsDistinct-from_count, distinct_count-from_IsDistinct, AllPairs-from_IsDistinct, IsDistinct-from_AllPairs}
use Rattle.std.proofs.lemmas.Map.Views.{btree_set_len-from_list}
use Rattle.desk_replica.proofs.world.sites.stand_once.Goals as goal

same : (a b : ℕ) → Decides (eq_by_cmp nat_cmp a b) (a ≡ b)
same a b = subst (λ (r : Bool). Decides r (a ≡ b)) (unsigned_ties a b) (unsigned_Decides a b)

pub returns : goal.returns
returns c =
    let sites = c.args.sites.now in
    let made : IsFromIterResult nat_cmp sites c.in_ok-distinct.distinct = search rules in
    let count = c.len.ensures.len ∙ btree_set_len-from_list nat_cmp_total sites c.in_ok-distinct.distinct made in (
      λ even. AllPairs-from_IsDistinct same sites (IsDistinct-from_count (eq_by_cmp_equiv nat_cmp_total) sites (sym count ∙ eqb-true _ _ even)),
      λ apart. eq-eqb _ _ (count ∙ distinct_count-from_IsDistinct (eq_by_cmp_equiv nat_cmp_total) sites (IsDistinct-from_AllPairs same sites apart)),
    )
