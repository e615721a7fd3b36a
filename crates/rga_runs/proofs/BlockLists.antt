-- The stretches and the numbers of blocks.
use Rattle.std.proofs.Common.{◌≡◌, ℕ, zero, suc, ◌<◌, ◌≤◌, ◌*◌, List, [], ◌∷◌, length, get_or, refl, sym, ap, ◌∙◌, length-append, arith}
use Rattle.std.specs.Prelude.{set, vec_len}
use Rattle.std.proofs.lemmas.List.{length-map, get_or-map, map-set}
use Rattle.rga_runs.specs.declared.stretch.Stretch.{Stretch}
use Rattle.rga_runs.specs.declared.block.Block.{Block}
use Rattle.rga_runs.specs.Blocks.{row_of}
use Rattle.rga_runs.specs.BlockRows.{items_of, numbers_of}

pub length-items : (bs : List Block) → length (items_of bs) ≡ length bs
length-items bs = length-map bs (λ b. b.stretches.items)

pub length-numbers : (bs : List Block) → length (numbers_of bs) ≡ length bs
length-numbers bs = length-map bs (λ b. b.number)

pub as_many_numbers : (bs : List Block) → length (items_of bs) ≡ length (numbers_of bs)
as_many_numbers bs = length-items bs ∙ sym (length-numbers bs)

pub items_there : (bs : List Block) (p : ℕ) (b : Block) → p < length bs → get_or (items_of bs) p [] ≡ (get_or bs p b).stretches.items
items_there bs p b there = get_or-map (λ (b : Block). b.stretches.items) bs p b [] there

-- those of a block that was read
pub items_at : (bs : List Block) (p : ℕ) (b : Block) → p < length bs → b ≡ get_or bs p b → get_or (items_of bs) p [] ≡ b.stretches.items
items_at bs p b there is = items_there bs p b there ∙ ap (λ (b : Block). b.stretches.items) (sym is)

-- how many it has
pub items_len : (bs : List Block) (p : ℕ) (b : Block) → p < length bs → b ≡ get_or bs p b → vec_len b.stretches ≡ length (get_or (items_of bs) p [])
items_len bs p b there is = omega (arith, b.stretches.ok, ap length (items_at bs p b there is))

-- a block whose stretches were changed
pub items-set : (bs : List Block) (q : ℕ) (old new : Block) (F : List Stretch → List Stretch) → q < length bs → old ≡ get_or bs q old → new.stretches.items ≡ F old.stretches.items
    → items_of (set bs q new) ≡ set (items_of bs) q (F (get_or (items_of bs) q []))
items-set bs q old new F there is changed =
    map-set (λ (b : Block). b.stretches.items) bs q new ∙ ap (set (items_of bs) q) (changed ∙ ap F (sym (items_at bs q old there is)))

-- a block that keeps its number
pub numbers-set : (bs : List Block) (q : ℕ) (old new : Block) → q < length bs → old ≡ get_or bs q old → new.number ≡ old.number → numbers_of (set bs q new) ≡ numbers_of bs
numbers-set [] q old new there is same = absurd (omega arith)
numbers-set (b ∷ bs) zero old new there is same = ap (λ n. n ∷ numbers_of bs) (same ∙ ap (λ (z : Block). z.number) is)
numbers-set (b ∷ bs) (suc q) old new there is same = ap (λ ns. b.number ∷ ns) (numbers-set bs q old new (omega arith) is same)

pub number_there : (bs : List Block) (p : ℕ) (d : Block) → p < length bs → get_or (numbers_of bs) p 0 ≡ (get_or bs p d).number
number_there [] p d there = absurd (omega arith)
number_there (x ∷ bs) zero d there = refl
number_there (x ∷ bs) (suc p) d there = number_there bs p d (omega arith)

-- each has at most 256
pub few_stretches : (bs : List Block) → length (row_of (items_of bs)) ≤ 256 * length bs
few_stretches [] = omega arith
few_stretches (b ∷ bs) =
    let few = b.few in
    omega (arith, few, b.stretches.ok, few_stretches bs, length-append b.stretches.items (row_of (items_of bs)))
