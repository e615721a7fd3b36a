-- No block has more than 512 elements.
use Rattle.std.specs.Prelude.{ℕ, zero, suc, ◌≤◌, List, [], ◌∷◌, length, get_or}
use Rattle.std.proofs.Common.{arith}
use Rattle.rga_sequence.specs.declared.block.Block.{Block}
use Rattle.rga_sequence.specs.BlockRows.{items_of}

pub few_items : (bs : List Block) (b : ℕ) → length (get_or (items_of bs) b []) ≤ 512
few_items [] b = omega arith
few_items (x ∷ bs) zero = omega (arith, x.few, x.elements.ok)
few_items (x ∷ bs) (suc b) = few_items bs b
