-- Parents from the parts of their identifiers.
use Rattle.std.proofs.Common.{◌≡◌, ℕ, zero, suc, ◌<◌, refl, ap, ◌∙◌, arith}
use Rattle.bg_types.specs.Identifier.{Identifier}
use Rattle.bg_types.specs.declared.op.Place.TheVariants.{Root, After}
use Rattle.rga_runs.specs.Parents.{place_from}

pub root_from : (site n : ℕ) → site ≡ 0 → place_from site n ≡ Root
root_from site n none = ap (λ s. place_from s n) none

pub after_from : (q : Identifier) (n : ℕ) → 0 < q.site → n ≡ q.counter → place_from q.site n ≡ After q
after_from q n some is = ap (place_from q.site) is ∙ by_site q.site some where
  by_site : (s : ℕ) → 0 < s → place_from s q.counter ≡ After (record { counter = q.counter; site = s })
  by_site zero some = absurd (omega (arith, some))
  by_site (suc s) some = refl
