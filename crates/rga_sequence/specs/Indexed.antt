-- A row of blocks with the index of its identifiers, and memory for more.
use Rattle.std.specs.Prelude.{◌≡◌, ◌+◌, ◌*◌, ◌^◌, ◌<◌, ◌≤◌, ℕ, Bool, List, length, get_or, slice_get, Some, vec_len, vec_capacity}
use Rattle.std.proofs.Props.{props}
use Rattle.bg_types.specs.Identifier.{Identifier}
use Rattle.rga_tree.specs.declared.element.Element.{Element}
use Rattle.rga_sequence.specs.declared.row.Row.{Row}
use Rattle.rga_sequence.specs.Blocks.{joined}
use Rattle.rga_sequence.specs.BlockRows.{items_of, numbers_of, home_of, AreHalfFull}
use Rattle.rga_sequence.specs.Bounds.{AreBounds}
use Rattle.rga_sequence.specs.Sums.{AreSums}
use Rattle.rga_sequence.specs.Grouped.{home_in, IsGrouped, HasIndexRoom}

abbrev pub blocks_in : Row → List (List Element)
blocks_in r = items_of r.blocks.items

abbrev pub elements_in : Row → List Element
elements_in r = joined (blocks_in r)

-- the index has the number of each identifier's block, `places` where in the row each number's block is, `bounds` what no
-- identifier of some neighbouring blocks is below, and `sums` how many of their elements are visible
pub record IsIndexed (eq : Identifier → Identifier → Bool) (r : Row) : Type 0 where
  pub grouped : IsGrouped eq r.index
  pub homes : (q : Identifier) → home_in eq r.index q ≡ home_of (blocks_in r) (numbers_of r.blocks.items) q
  pub places : (p : ℕ) → p < length r.blocks.items → slice_get r.places.items (get_or (numbers_of r.blocks.items) p 0) ≡ Some p
  pub as_many : vec_len r.places ≡ vec_len r.blocks
  pub halves : AreHalfFull (blocks_in r)
  pub bounds : AreBounds r.bounds.items (blocks_in r)
  pub sums : AreSums r.sums.items (blocks_in r)

-- the next n elements take no memory: each spare block is for the 256 elements after which it may be needed
pub record HasRoom (r : Row) (n : ℕ) : Type 0 where
  pub paid : length (elements_in r) + n ≤ 256 * (vec_len r.blocks + vec_len r.spares)
  pub index : HasIndexRoom r.index n
  pub blocks : vec_len r.blocks + vec_len r.spares ≤ vec_capacity r.blocks
  pub places : vec_len r.blocks + vec_len r.spares ≤ vec_capacity r.places
  pub few : vec_len r.blocks + vec_len r.spares < 2 ^ 32

-- each has at most one proof, so that a ghost field may say it
pub IsIndexed-prop : (eq : Identifier → Identifier → Bool) (r : Row) → IsProp (IsIndexed eq r)
IsIndexed-prop eq r = hlevel props

pub HasRoom-prop : (r : Row) (n : ℕ) → IsProp (HasRoom r n)
HasRoom-prop r n = hlevel props
