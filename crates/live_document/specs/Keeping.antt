-- Rows that are kept beside the paragraphs of a text.
use Rattle.std.specs.Prelude.{◌≡◌, ◌+◌, ◌≤◌, ◌<◌, ◌⊎◌, ◌*◌, ℕ, List, [], Bool, true, false, is_some, map as each, length, take, drop, slice_get, slice_index_or, sum_by, encode_utf8_all, IfSome}
use Rattle.std.specs.List.{All, flat_map}
use Rattle.std.specs.Option.{option_map_or}
use Rattle.bg_types.specs.declared.class.Base.{Base}
use Rattle.unicode_tables.specs.Tables.{TableValues}
use Rattle.cell_grid.specs.RunCounts.{run_count}
use Rattle.cell_grid.specs.Rows.{DrawnRow, rows_of}
use Rattle.text_buffer.specs.Buffers.{KeptParagraph, paragraphs_in, kept_weight, IsSplit}

abbrev pub Rows : Type 0
Rows = List DrawnRow

-- what a buffer is seen as that keeps rows
abbrev pub KeptText : Type 0
KeptText = List (KeptParagraph Rows)

-- the rows of paragraphs with these code points, each counted from its start
abbrev pub rows_of_text : TableValues → (width : ℕ) → Base → List ℕ → List DrawnRow
rows_of_text tables width base points = rows_of tables width base (encode_utf8_all points)

abbrev pub rows_of_texts : TableValues → (width : ℕ) → Base → List (List ℕ) → List DrawnRow
rows_of_texts tables width base texts = flat_map (rows_of_text tables width base) texts

-- the rows that are kept of a paragraph are those of its text at this width and base, counted from its start
abbrev pub IsLaid : TableValues → (width : ℕ) → Base → KeptParagraph Rows → Type 0
IsLaid tables width base p = IfSome p.kept (λ (rows : Rows). rows ≡ rows_of_text tables width base p.points)

-- these are the paragraphs of their text, and what is kept of them is theirs
pub record IsKeptAt (tables : TableValues) (width : ℕ) (base : Base) (kept : KeptText) : Type 0 where
  pub at_least : 2 ≤ width
  pub at_most : width ≤ 500
  pub split : IsSplit tables (paragraphs_in kept)
  pub laid : All (IsLaid tables width base) kept

-- the rows that are kept of a paragraph, or none
abbrev pub rows_beside : KeptParagraph Rows → List DrawnRow
rows_beside p = option_map_or (λ (rows : Rows). rows) p.kept []

-- those of the paragraph with this number
abbrev pub rows_at : KeptText → ℕ → List DrawnRow
rows_at kept number = option_map_or rows_beside (slice_get kept number) []

-- what rows weigh, in bytes: each one 48, and each of its runs of like clusters 14
abbrev pub row_weight : DrawnRow → ℕ
row_weight r = 48 + 14 * run_count r.entries

abbrev pub rows_weight : Rows → ℕ
rows_weight rows = sum_by row_weight rows

-- rows that weigh so much
pub record Weigh (rows : Rows) (weight : ℕ) : Type 0 where
  pub is : weight ≡ rows_weight rows
  pub few : weight ≤ 56_000_048 * length rows

-- what the rows weigh that are kept
abbrev pub weight_held : KeptText → ℕ
weight_held kept = kept_weight rows_weight kept

-- how many of them of the paragraphs before one number and from another on
abbrev pub held_outside : KeptText → (from to : ℕ) → ℕ
held_outside kept from to = weight_held (take from kept) + weight_held (drop to kept)

-- of which paragraphs rows are kept
abbrev pub flags : KeptText → List Bool
flags kept = each (λ (p : KeptParagraph Rows). is_some p.kept) kept

abbrev pub is_kept : List Bool → ℕ → Bool
is_kept kept number = slice_index_or kept number false

-- rows are kept now of the paragraphs from one number up to another, and of the others as before
pub record IsMarked (old : List Bool) (from to : ℕ) (new : List Bool) : Type 0 where
  pub count : length new ≡ length old
  pub inside : (k : ℕ) → from ≤ k → k < to → is_kept new k ≡ true
  pub outside : (k : ℕ) → (k < from) ⊎ (to ≤ k) → is_kept new k ≡ is_kept old k

-- what is kept at a width and a base is kept so afterwards
abbrev pub StaysKept : TableValues → (old new : KeptText) → Type 0
StaysKept tables old new = (width : ℕ) (base : Base) → IsKeptAt tables width base old → IsKeptAt tables width base new
