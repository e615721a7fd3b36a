-- The order of identifiers is total, and only equal identifiers tie.
use Rattle.std.proofs.Common.{◌≡◌, ℕ, true, ap, refl}
use Rattle.std.specs.Ordering.{nat_cmp, is_eq}
use Rattle.std.specs.declared.cmp.Ordering.{Ordering}
use Rattle.std.specs.declared.cmp.Ordering.TheVariants.{Less, Equal, Greater}
use Rattle.std.specs.Cmp.{IsTotalOrder, tied_itself}
use Rattle.std.proofs.lemmas.Cmp.{on_total, then_total, nat_cmp_total}
use Rattle.std.proofs.lemmas.Map.Lookups.{CmpEqualImpliesEq, exact_pairs, exact_unsigned}
use Rattle.bg_types.specs.Identifier.{Identifier, id_cmp, same_id}

pub id_cmp-total : IsTotalOrder id_cmp
id_cmp-total = then_total (on_total (λ (a : Identifier). a.counter) nat_cmp_total) (on_total (λ (a : Identifier). a.site) nat_cmp_total)

pub id_cmp-exact : CmpEqualImpliesEq id_cmp
id_cmp-exact a b h = ap (λ (p : ℕ × ℕ). record { counter = p.0; site = p.1 }) (exact_pairs nat_cmp nat_cmp exact_unsigned exact_unsigned (a.counter, a.site) (b.counter, b.site) h)

is_tied : (o : Ordering) → is_eq o ≡ true → o ≡ Equal
is_tied Less h = absurd cc
is_tied Equal h = refl
is_tied Greater h = absurd cc

-- the test recognizes equal identifiers
pub same_id-is : (a b : Identifier) → same_id a b ≡ true → a ≡ b
same_id-is a b h = id_cmp-exact a b (is_tied (id_cmp a b) h)

pub same_id-itself : (a : Identifier) → same_id a a ≡ true
same_id-itself a = ap is_eq (tied_itself id_cmp-total a)
