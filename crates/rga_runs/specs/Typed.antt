-- Characters that one site typed one after the other, each behind the one before.
use Rattle.std.specs.Prelude.{ℕ, zero, suc, ◌+◌, ◌/◌, ◌%◌, Bool, List, [], ◌∷◌, nat_eq, if◌then◌else◌}
use Rattle.bg_types.specs.Identifier.{Identifier}
use Rattle.bg_types.specs.declared.op.Place.{Place}
use Rattle.bg_types.specs.declared.op.Place.TheVariants.{After}
use Rattle.rga_tree.specs.declared.element.Element.{Element}
pub use Rattle.rga_tree.specs.Run.{later}

abbrev pub is_odd : ℕ → Bool
is_odd bits = nat_eq (bits % 2) 1

-- the elements of characters of which the first has this identifier and this parent, and each further one the one before as its
-- parent. A bit that is set says that one is hidden, the lowest bit that of the first.
abbrev pub typed : Identifier → Place → ℕ → List ℕ → List Element
typed id parent bits [] = []
typed id parent bits (ch ∷ chs) = record { id = id; parent = parent; ch = ch; hidden = is_odd bits } ∷ typed (later id 1) (After id) (bits / 2) chs

-- the parent of character k
abbrev pub parent_at : Identifier → Place → ℕ → Place
parent_at id parent zero = parent
parent_at id parent (suc k) = After (later id k)

-- the bits from bit k on
abbrev pub bits_from : ℕ → ℕ → ℕ
bits_from zero bits = bits
bits_from (suc k) bits = bits_from k (bits / 2)

-- how many of the lowest n bits aren't set
abbrev pub unset : ℕ → ℕ → ℕ
unset zero bits = 0
unset (suc n) bits = (if is_odd bits then 0 else 1) + unset n (bits / 2)
