-- The loop that places what waited: take the next ready insertion, place it, release what stands right after it.
use Rattle.std.specs.Prelude.{◌≡◌, ◌↔◌, Bool, true, false, ℕ, List, [], ◌∷◌, length, All, None, if◌then◌else◌, map as each}
use Rattle.std.specs.List.{list_any, IsDistinct}
use Rattle.std.specs.FinMap as map
use Rattle.bg_types.specs.Identifier.{Identifier, same_id}
use Rattle.bg_types.specs.OperationSet.{Holds}
use Rattle.bg_types.specs.declared.op.OpView.{OpView}
use Rattle.bg_types.specs.declared.op.OpView.TheVariants.{Insert, Erase}
use Rattle.pending_ops.specs.Waiting.{Waiting, follows, is_after, Releases, TakesOut}
use Rattle.pending_ops.specs.Below.{IsBelow, CountsBelow}

-- the identifier that an operation names as its own or as its target
abbrev pub subject : OpView → Identifier
subject (Insert id parent ch) = id
subject (Erase target) = target

-- a ready insertion is taken out, the erasure that waits for it may be dropped, and what stands right after it is released
pub record PlacesOne (old : Waiting) (op : OpView) (new : Waiting) : Type 0 where
  pub taken : Waiting
  pub rest : Waiting
  pub takes : TakesOut old op taken
  pub insertions : rest.held.ins ≡ taken.held.ins
  pub released : rest.released ≡ taken.released
  pub releases : Releases rest (subject op) new

-- one after the other
abbrev pub PlacesEach : Waiting → List OpView → Waiting → Type 0
PlacesEach old [] new = new ≡ old
PlacesEach old (op ∷ ops) new = (next : Waiting) × (PlacesOne old op next × PlacesEach next ops new)

abbrev pub is_placed : List Identifier → Identifier → Bool
is_placed placed q = list_any (same_id q) placed

abbrev pub parent_is_placed : List Identifier → OpView → Bool
parent_is_placed placed (Insert id parent ch) = list_any (is_after parent) placed
parent_is_placed placed (Erase target) = false

-- the parent of each is among the placed ones or an earlier one
abbrev pub FollowPlaced : List Identifier → List OpView → Type 0
FollowPlaced placed [] = Unit {0}
FollowPlaced placed (op ∷ ops) = (parent_is_placed placed op ≡ true) × FollowPlaced (subject op ∷ placed) ops

-- the loop that began once `id` was placed has placed exactly what stood below it, and what it left waits for others
pub record PlacesBelow (old : Waiting) (id : Identifier) (ops : List OpView) (new : Waiting) : Type 0 where
  pub were_held : All (Holds old.held) ops
  pub exact : (q : Identifier) → (is_placed (each subject ops) q ≡ true) ↔ IsBelow old.held id q
  pub once : IsDistinct same_id (each subject ops)
  pub counted : (n : ℕ) → CountsBelow old.held id n → n ≡ length ops
  pub after_parent : FollowPlaced (id ∷ []) ops
  pub rest : (q : Identifier) → map.get new.held.ins q ≡ (if is_placed (each subject ops) q then None else map.get old.held.ins q)
  pub waits : (p q : Identifier) → follows new.held p q ≡ true → is_placed (id ∷ each subject ops) p ≡ false
