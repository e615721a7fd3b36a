-- The identifier of an insertion (the timestamp of Roh and others 2011), and its order.
use Rattle.std.specs.Prelude.{ℕ, ◌<◌, ◌^◌, Bool}
use Rattle.std.specs.declared.cmp.Ordering.{Ordering}
use Rattle.std.specs.Ordering.{nat_cmp, ordering_then, eq_by_cmp}

-- a counter, and the site that drew it
pub record Identifier : Type 0 where
  pub counter : ℕ
  pub site : ℕ

-- both count from 1, the counter in 32 bits and the site in 16
pub record IsIdentifier (id : Identifier) : Type 0 where
  pub counter_positive : 0 < id.counter
  pub counter_fits : id.counter < 2 ^ 32
  pub site_positive : 0 < id.site
  pub site_fits : id.site < 2 ^ 16

-- by counter, and at equal counters by site
abbrev pub id_cmp : Identifier → Identifier → Ordering
id_cmp a b = ordering_then (nat_cmp a.counter b.counter) (nat_cmp a.site b.site)

-- the test of equality that goes with the order
abbrev pub same_id : Identifier → Identifier → Bool
same_id a b = eq_by_cmp id_cmp a b
