-- The whole sequence, by the row of its blocks.
use Rattle.std.proofs.Common.{◌≡◌, ℕ, zero, suc, ◌<◌, ◌≤◌, List, [], ◌∷◌, length, get_or, Some, refl, ap, ◌∙◌, arith}
use Rattle.std.specs.Prelude.{slice_get}
use Rattle.std.proofs.lemmas.Option.{slice_get_read}
use Rattle.rga_tree.specs.declared.element.Element.{Element}
use Rattle.rga_sequence.specs.declared.block.Block.{Block}
use Rattle.rga_sequence.specs.declared.row.Row.{Row}
use Rattle.rga_sequence.specs.BlockRows.{items_of}
use Rattle.rga_sequence.specs.Indexed.{HasRoom}

pub less_room : (r : Row) (n m : ℕ) → HasRoom r n → m ≤ n → HasRoom r m
less_room r n m room less = record { paid = omega (arith, room.paid); index = (omega (arith, room.index.0), omega (arith, room.index.1)); blocks = room.blocks; places = room.places; few = room.few }

-- an element that was read in its block
pub element_is : (bs : List Block) (b j : ℕ) (x : Block) (e : Element) → j < length (get_or (items_of bs) b []) → x ≡ get_or bs b x → e ≡ get_or x.elements.items j e → slice_get (get_or (items_of bs) b []) j ≡ Some e
element_is [] b j x e there block is = absurd (omega arith)
element_is (y ∷ bs) zero j x e there block is = slice_get_read y.elements.items (length y.elements.items) j e refl there (is ∙ ap (λ (z : Block). get_or z.elements.items j e) block)
element_is (y ∷ bs) (suc b) j x e there block is = element_is bs b j x e there block is
