-- A row of blocks with the index of its stretches, and memory for more.
use Rattle.std.specs.Prelude.{◌≡◌, ◌+◌, ◌-◌, ◌*◌, ◌^◌, ◌<◌, ◌≤◌, ℕ, List, [], All, length, get_or, slice_get, Option, Some, min, vec_len, vec_capacity}
use Rattle.std.proofs.Props.{props}
use Rattle.bg_types.specs.Identifier.{Identifier}
use Rattle.rga_runs.specs.declared.stretch.Stretch.{Stretch}
use Rattle.rga_runs.specs.declared.row.Row.{Row}
use Rattle.rga_runs.specs.Typed.{later}
use Rattle.rga_runs.specs.Stretches.{IsOutside}
use Rattle.rga_runs.specs.Blocks.{row_of, AreHalfFull}
use Rattle.rga_runs.specs.BlockRows.{items_of, numbers_of}
use Rattle.rga_runs.specs.Keyed.{look_in}
use Rattle.rga_runs.specs.Bounds.{AreBounds}
use Rattle.rga_runs.specs.Sums.{AreSums}
use Rattle.rga_runs.specs.KeyRows.{keys_in, key_room}

abbrev pub stretches_in : Row → List Stretch
stretches_in r = row_of (items_of r.blocks.items)

-- how many stretches its blocks and the spare ones hold for certain
abbrev pub capacity : Row → ℕ
capacity r = 128 * (vec_len r.blocks + vec_len r.spares)

-- each identifier of the stretch leads to it, and to the block with this number
abbrev pub IsHome : (Identifier → Option (Identifier × ℕ)) → ℕ → Stretch → Type 0
IsHome look n s = (k : ℕ) → k < s.count → look (later s.first k) ≡ Some (s.first, n)

-- so do those of all stretches of the blocks, which have these numbers
abbrev pub AreHome : (Identifier → Option (Identifier × ℕ)) → List (List Stretch) → List ℕ → Type 0
AreHome look xs ns = (b : ℕ) → b < length xs → All (IsHome look (get_or ns b 0)) (get_or xs b [])

-- each identifier that is found stands
abbrev pub AreKnown : (Identifier → Option (Identifier × ℕ)) → List Stretch → Type 0
AreKnown look ss = (q f : Identifier) (n : ℕ) → q.counter < 2 ^ 32 → look q ≡ Some (f, n) → All (IsOutside f) ss → ⊥

-- the index leads from each identifier to its stretch, and from no identifier to one that doesn't stand; `places` has the place of
-- each number's block, `bounds` what no stretch of some neighbouring blocks begins below, and `sums` how many of their characters are
-- visible
pub record IsIndexed (r : Row) : Type 0 where
  pub homes : AreHome (look_in (keys_in r.keys)) (items_of r.blocks.items) (numbers_of r.blocks.items)
  pub known : AreKnown (look_in (keys_in r.keys)) (stretches_in r)
  pub places : (p : ℕ) → p < length r.blocks.items → slice_get r.places.items (get_or (numbers_of r.blocks.items) p 0) ≡ Some p
  pub as_many : vec_len r.places ≡ vec_len r.blocks
  pub keyed : length (keys_in r.keys) ≡ length (stretches_in r)
  pub counted : r.count ≡ length (stretches_in r)
  pub halves : AreHalfFull (items_of r.blocks.items)
  pub bounds : AreBounds r.bounds.items (items_of r.blocks.items)
  pub sums : AreSums r.sums.items (items_of r.blocks.items)
  pub few : vec_len r.blocks < 2 ^ 32

-- the next n stretches take no memory: there is a spare block for each of them, or else each spare block is for the 128
-- stretches after which it may be needed. So it is with the leaves of keys.
pub record HasRoom (r : Row) (n : ℕ) : Type 0 where
  pub paid : vec_len r.spares < n → length (stretches_in r) + n ≤ capacity r
  pub keys : vec_len r.keys.spares < n → length (stretches_in r) + n ≤ key_room r.keys
  pub blocks : vec_len r.blocks + vec_len r.spares ≤ vec_capacity r.blocks
  pub places : vec_len r.blocks + vec_len r.spares ≤ vec_capacity r.places
  pub few : vec_len r.blocks + vec_len r.spares < 2 ^ 32

-- so do the next one, which has a place in its block, and n behind that
pub record HasPlace (r : Row) (n : ℕ) : Type 0 where
  pub paid : vec_len r.spares < n → length (stretches_in r) + (n + 1) ≤ capacity r
  pub keys : vec_len r.keys.spares < n + 1 → length (stretches_in r) + (n + 1) ≤ key_room r.keys
  pub blocks : vec_len r.blocks + vec_len r.spares ≤ vec_capacity r.blocks
  pub places : vec_len r.blocks + vec_len r.spares ≤ vec_capacity r.places
  pub few : vec_len r.blocks + vec_len r.spares < 2 ^ 32

-- a row has at most n stretches more than an old one, and room for as many as that in all
pub record TakesRoom (n : ℕ) (old new : Row) : Type 0 where
  pub least : length (stretches_in old) ≤ length (stretches_in new)
  pub most : length (stretches_in new) ≤ length (stretches_in old) + n
  pub room : (m k : ℕ) → length (stretches_in new) + k ≤ length (stretches_in old) + m → HasRoom old m → HasRoom new k

-- how many stretches n placings make at most, where so many characters have so many: two each, and no more in all than there are
-- characters then, and one
abbrev pub stretches_for : ℕ → ℕ → ℕ → ℕ
stretches_for n characters stretches = min (2 * n) (characters + n + 1 - stretches)

-- each has at most one proof, so that a ghost field may say it
pub IsIndexed-prop : (r : Row) → IsProp (IsIndexed r)
IsIndexed-prop r = hlevel props

pub HasRoom-prop : (r : Row) (n : ℕ) → IsProp (HasRoom r n)
HasRoom-prop r n = hlevel props
