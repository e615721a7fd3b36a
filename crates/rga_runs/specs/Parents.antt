-- What an element follows, as the parts of its identifier. Those of the root are 0.
use Rattle.std.proofs.Common.{◌≡◌, ℕ, zero, suc, ◌+◌, ◌*◌, ◌/◌, ◌%◌, ◌<◌, refl, sym, ap, ◌∙◌, arith}
use Rattle.bg_types.specs.declared.op.Place.{Place}
use Rattle.bg_types.specs.declared.op.Place.TheVariants.{Root, After}

abbrev pub place_from : ℕ → ℕ → Place
place_from zero counter = Root
place_from (suc site) counter = After (record { counter = counter; site = suc site })

abbrev pub site_of : Place → ℕ
site_of Root = 0
site_of (After q) = q.site

abbrev pub counter_of : Place → ℕ
counter_of Root = 0
counter_of (After q) = q.counter

pub site_from : (site counter : ℕ) → site_of (place_from site counter) ≡ site
site_from zero counter = refl
site_from (suc site) counter = refl

counter_from : (site counter : ℕ) → (site ≡ 0 → counter ≡ 0) → counter_of (place_from site counter) ≡ counter
counter_from zero counter none = sym (none refl)
counter_from (suc site) counter none = refl

pub high_from : (site high low : ℕ) → low < 65536 → (site ≡ 0 → high * 65536 + low ≡ 0) → counter_of (place_from site (high * 65536 + low)) / 65536 ≡ high
high_from site high low small none = ap (λ n. n / 65536) (counter_from site (high * 65536 + low) none) ∙ omega (arith, small)

pub low_from : (site high low : ℕ) → low < 65536 → (site ≡ 0 → high * 65536 + low ≡ 0) → counter_of (place_from site (high * 65536 + low)) % 65536 ≡ low
low_from site high low small none = ap (λ n. n % 65536) (counter_from site (high * 65536 + low) none) ∙ omega (arith, small)
