-- What a desk keeps, identifier by identifier.
use Rattle.std.proofs.Common.{◌≡◌, Bool, true, false, Option, Some, None, refl, sym, ap, ◌∙◌}
use Rattle.std.specs.Prelude.{◌||◌}
use Rattle.std.specs.FinMap as map
use Rattle.std.specs.FinSet as set
use Rattle.bg_types.specs.Identifier.{Identifier}
use Rattle.bg_types.specs.OperationSet.{Node, OperationSet, union}
use Rattle.bg_types.proofs.Interface.{id_cmp-total, same_sets, get-union, unwrap_first}

pub contains-union : (t h : OperationSet) (q : Identifier) → set.contains (union t h).del q ≡ (set.contains t.del q || set.contains h.del q)
contains-union t h q = set.contains-union id_cmp-total t.del h.del q

pub or_false : (a b : Bool) → b ≡ false → (a || b) ≡ a
or_false true b e = refl
or_false false b e = e

pub some_not : (n : Node) (A : Type 0) → None ≡ Some n → A
some_not n A e = cc

pub first_none : (a b : Option Node) → a ≡ None → unwrap_first a b ≡ b
first_none a b e = ap (λ o. unwrap_first o b) e

pub first_some : (a b : Option Node) (n : Node) → a ≡ Some n → unwrap_first a b ≡ Some n
first_some a b n e = ap (λ o. unwrap_first o b) e

-- what both together keep is kept by one
pub which : (a b : Option Node) (n : Node) (A : Type 0) → unwrap_first a b ≡ Some n → (a ≡ Some n → A) → (a ≡ None → b ≡ Some n → A) → A
which None b n A e f g = g refl e
which (Some m) b n A e f g = f e

-- two pairs that tell the same, identifier by identifier, are one set
pub same_unions : (t h u v : OperationSet)
    → ((q : Identifier) → unwrap_first (map.get u.ins q) (map.get v.ins q) ≡ unwrap_first (map.get t.ins q) (map.get h.ins q))
    → ((q : Identifier) → (set.contains u.del q || set.contains v.del q) ≡ (set.contains t.del q || set.contains h.del q))
    → union u v ≡ union t h
same_unions t h u v ins del =
    same_sets (union u v) (union t h) (λ q. get-union u v q ∙ ins q ∙ sym (get-union t h q)) (λ q. contains-union u v q ∙ del q ∙ sym (contains-union t h q))
