-- Union of sets of operations is commutative, associative and idempotent.
use Rattle.std.proofs.Common.{◌≡◌, Bool, true, false, Option, Some, None, refl, sym, ap, ◌∙◌}
use Rattle.std.specs.Prelude.{◌||◌}
use Rattle.std.specs.FinMap as map
use Rattle.std.specs.FinSet as set
use Rattle.bg_types.specs.OperationSet.{Node, OperationSet, Agree, union}
use Rattle.bg_types.proofs.Interface.{same_sets, get-union, unwrap_first}
use Rattle.desk_replica.proofs.Whole.{contains-union, same_unions}

swap_first : (a b : Option Node) → ((x y : Node) → a ≡ Some x → b ≡ Some y → x ≡ y) → unwrap_first a b ≡ unwrap_first b a
swap_first None None f = refl
swap_first None (Some y) f = refl
swap_first (Some x) None f = refl
swap_first (Some x) (Some y) f = ap (λ (n : Node). Some n) (f x y refl refl)

swap_or : (a b : Bool) → (a || b) ≡ (b || a)
swap_or true true = refl
swap_or true false = refl
swap_or false true = refl
swap_or false false = refl

first_assoc : (a b c : Option Node) → unwrap_first (unwrap_first a b) c ≡ unwrap_first a (unwrap_first b c)
first_assoc None b c = refl
first_assoc (Some x) b c = refl

or_assoc : (a b c : Bool) → ((a || b) || c) ≡ (a || (b || c))
or_assoc true b c = refl
or_assoc false b c = refl

first_same : (a : Option Node) → unwrap_first a a ≡ a
first_same None = refl
first_same (Some x) = refl

or_same : (a : Bool) → (a || a) ≡ a
or_same true = refl
or_same false = refl

pub commutative : (s t : OperationSet) → Agree s t → union s t ≡ union t s
commutative s t agree = same_unions t s s t (λ q. swap_first (map.get s.ins q) (map.get t.ins q) (agree q)) (λ q. swap_or (set.contains s.del q) (set.contains t.del q))

pub associative : (s t u : OperationSet) → union (union s t) u ≡ union s (union t u)
associative s t u =
    same_unions s (union t u) (union s t) u
    (λ q. ap (λ o. unwrap_first o (map.get u.ins q)) (get-union s t q) ∙ first_assoc (map.get s.ins q) (map.get t.ins q) (map.get u.ins q) ∙ ap (unwrap_first (map.get s.ins q)) (sym (get-union t u q)))
    (λ q. ap (λ b. b || set.contains u.del q) (contains-union s t q) ∙ or_assoc (set.contains s.del q) (set.contains t.del q) (set.contains u.del q) ∙ ap (λ b. set.contains s.del q || b) (sym (contains-union t u q)))

pub idempotent : (s : OperationSet) → union s s ≡ s
idempotent s = same_sets (union s s) s (λ q. get-union s s q ∙ first_same (map.get s.ins q)) (λ q. contains-union s s q ∙ or_same (set.contains s.del q))
