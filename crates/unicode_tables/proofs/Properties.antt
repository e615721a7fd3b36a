-- The list of the values at all code points, where blocks change.
use Rattle.std.proofs.Common.{◌≡◌, ℕ, ◌+◌, ◌*◌, ◌/◌, ◌<◌, Bool, true, false, cond, leb, min, get_or, refl, ap, ◌∙◌, sym, arith}
use Rattle.std.specs.Prelude.{◌&&◌, not}
use Rattle.std.proofs.lemmas.Bool.Decides.{nat_tests}
use Rattle.std.proofs.lemmas.Nat.{div-mul-add}
use Rattle.unicode_tables.specs.declared.blocks.Blocks.{Blocks}
use Rattle.unicode_tables.specs.Tables.{each_code_point}
use Rattle.unicode_tables.specs.Blocks.{value_in, is_paged}
use Rattle.unicode_tables.proofs.CodePoints.{each_below-at}
use Rattle.unicode_tables.proofs.BlockValues.{value-even}

-- the value that is listed
pub listed : {V : Type 0} (blocks : Blocks V) (v : V) (c : ℕ) (d : V) → c < 0x110000 → get_or (each_code_point (λ k. value_in blocks k v)) c d ≡ value_in blocks c v
listed blocks v c d h = each_below-at 0x110000 (λ k. value_in blocks k v) c d h

below-last : (c last most : ℕ) → c < 0x110000 → most ≡ min last 0x10FFFF → leb c most ≡ leb c last
below-last c last most h is = grind (arith, nat_tests)

-- a range is set
pub listed-set : {V : Type 0} (old new : Blocks V) (v value : V) (first last most : ℕ) → most ≡ min last 0x10FFFF
    → ((c : ℕ) (d : V) → c < 0x110000 → value_in new c d ≡ cond (leb first c && leb c most) value (value_in old c d))
    → (c : ℕ) (d : V) → c < 0x110000
    → get_or (each_code_point (λ k. value_in new k v)) c d ≡ cond (leb first c && leb c last) value (get_or (each_code_point (λ k. value_in old k v)) c d)
listed-set old new v value first last most is set c d h =
    listed new v c d h ∙ set c v h
    ∙ ap (λ b. cond (leb first c && b) value (value_in old c v)) (below-last c last most h is)
    ∙ ap (cond (leb first c && leb c last) value) (sym (listed old v c d h))

-- a block that isn't paged has one value
pub listed-even : {V : Type 0} (blocks : Blocks V) (v : V) (block k : ℕ) (d : V) → is_paged blocks block ≡ false → block < 4352 → k < 256
    → get_or (each_code_point (λ n. value_in blocks n v)) (block * 256 + k) d ≡ get_or blocks.values.items block v
listed-even blocks v block k d even h j =
    let at : (block * 256 + k) / 256 ≡ block = div-mul-add block 256 k j in
    listed blocks v (block * 256 + k) d (omega arith)
    ∙ value-even blocks.paged.items blocks.pages.items blocks.values.items (block * 256 + k) v (ap (λ b. get_or blocks.paged.items b false) at ∙ even)
    ∙ ap (λ b. get_or blocks.values.items b v) at

-- all code points of a block that isn't paged have the value of its first
pub even-same : {V : Type 0} (blocks : Blocks V) (v : V) (block k : ℕ) (d : V) → is_paged blocks block ≡ false → block < 4352 → k < 256
    → get_or (each_code_point (λ n. value_in blocks n v)) (block * 256 + k) d ≡ get_or (each_code_point (λ n. value_in blocks n v)) (block * 256) d
even-same blocks v block k d even h j =
    let begin : block * 256 + 0 ≡ block * 256 = omega arith in
    listed-even blocks v block k d even h j
    ∙ sym (listed-even blocks v block 0 d even h (omega arith))
    ∙ ap (λ n. get_or (each_code_point (λ n. value_in blocks n v)) n d) begin

pub not_on : (b : Bool) → not b ≡ true → b ≡ false
not_on true h = absurd cc
not_on false h = refl
