-- A value for each code point, in blocks of 256: all code points of a block have one value, or those of its page.
use Rattle.std.specs.Prelude.{◌≡◌, ℕ, ◌/◌, ◌%◌, Bool, true, false, List, [], length, slice_index_or, if◌then◌else◌}
use Rattle.unicode_tables.specs.declared.blocks.Blocks.{Blocks}

-- the code points of the block have its page's values
abbrev pub is_paged : {V : Type 0} → Blocks V → ℕ → Bool
is_paged blocks b = slice_index_or blocks.paged.items b false

-- the value at a place of a block, of which blocks are paged, the pages and the blocks' values; what is no code point has the last one
abbrev pub value_at : {V : Type 0} → List Bool → List (List V) → List V → (block place : ℕ) → V → V
value_at paged pages values block place absent =
    if slice_index_or paged block false
    then slice_index_or (slice_index_or pages block []) place absent
    else slice_index_or values block absent

-- the value at c
abbrev pub value_of : {V : Type 0} → List Bool → List (List V) → List V → ℕ → V → V
value_of paged pages values c absent = value_at paged pages values (c / 256) (c % 256) absent

abbrev pub value_in : {V : Type 0} → Blocks V → ℕ → V → V
value_in blocks c absent = value_of blocks.paged.items blocks.pages.items blocks.values.items c absent

-- all blocks are there, and the page of a paged one has a value for each of its code points
pub record IsWhole {V : Type 0} (blocks : Blocks V) : Type 0 where
  pub values : length blocks.values.items ≡ 4352
  pub paged : length blocks.paged.items ≡ 4352
  pub pages : length blocks.pages.items ≡ 4352
  pub full : (b : ℕ) → is_paged blocks b ≡ true → length (slice_index_or blocks.pages.items b []) ≡ 256
