-- The numbers of blocks.
use Rattle.std.proofs.Common.{◌≡◌, ℕ, ◌<◌, List, ◌∷◌, ◌++◌, length, take, drop, get_or, sym, ap, ◌∙◌, arith}
use Rattle.std.specs.Prelude.{insert, set, vec_len}
use Rattle.std.proofs.lemmas.List.{length-map, drop-map, get_or-map, map-append, map-set, set-get_or, take-map}
use Rattle.rga_sequence.specs.declared.block.Block.{Block}
use Rattle.rga_sequence.specs.declared.row.Row.{Row}
use Rattle.rga_sequence.specs.BlockRows.{items_of, numbers_of}
use Rattle.rga_sequence.specs.Indexed.{blocks_in}

pub length-items : (bs : List Block) → length (items_of bs) ≡ length bs
length-items bs = length-map bs (λ b. b.elements.items)

pub length-numbers : (bs : List Block) → length (numbers_of bs) ≡ length bs
length-numbers bs = length-map bs (λ b. b.number)

pub block_there : (r : Row) (q : ℕ) → q < vec_len r.blocks → q < length (blocks_in r)
block_there r q there = omega (arith, length-items r.blocks.items, r.blocks.ok, there)

pub as_many_numbers : (bs : List Block) → length (items_of bs) ≡ length (numbers_of bs)
as_many_numbers bs = length-items bs ∙ sym (length-numbers bs)

pub number_there : (bs : List Block) (p : ℕ) (d : Block) → p < length bs → get_or (numbers_of bs) p 0 ≡ (get_or bs p d).number
number_there bs p d there = get_or-map (λ (b : Block). b.number) bs p d 0 there

-- a block that keeps its number
pub numbers-set : (bs : List Block) (q : ℕ) (d new : Block) → q < length bs → new.number ≡ (get_or bs q d).number → numbers_of (set bs q new) ≡ numbers_of bs
numbers-set bs q d new there same =
    map-set (λ (b : Block). b.number) bs q new ∙ ap (set (numbers_of bs) q) (same ∙ sym (number_there bs q d there)) ∙ set-get_or (numbers_of bs) q 0

pub numbers-insert : (bs : List Block) (i : ℕ) (b : Block) → numbers_of (insert bs i b) ≡ insert (numbers_of bs) i b.number
numbers-insert bs i b =
    map-append (λ (b : Block). b.number) (take i bs) (b ∷ drop i bs)
    ∙ (λ j. sym (take-map (λ (b : Block). b.number) i bs) j ++ b.number ∷ sym (drop-map (λ (b : Block). b.number) i bs) j)
