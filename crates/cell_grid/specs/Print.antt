-- Print of a grid: the cells' texts, each row ended by one LF.
use Rattle.std.specs.Prelude.{◌≡◌, ◌≤◌, ◌^◌, ℕ, zero, suc, Bool, false, List, [], ◌∷◌, ◌++◌, map, length, replicate, slice_get, slice_range, Option, Some, None, Result, MatchResult, encode_utf8_all, if◌then◌else◌}
use Rattle.std.specs.List.{flat_map}
use Rattle.std.specs.Option.{option_map_or}
use Rattle.bg_types.specs.declared.class.Base.{Base}
use Rattle.unicode_tables.specs.Tables.{TableValues, bidi_of}
use Rattle.paragraphs.specs.declared.span.Span.{Span}
use Rattle.paragraphs.specs.Text.{code_points}
use Rattle.reorder.specs.Mirrored.{mirrored_of}
use Rattle.cell_grid.specs.declared.cluster_run.ClusterRun.{ClusterRun}
use Rattle.cell_grid.specs.declared.entry.Entry.{Entry}
use Rattle.cell_grid.specs.declared.cell.Cell.{Cell}
use Rattle.cell_grid.specs.declared.cell.Cell.TheVariants.{Blank, Head, Tail}
use Rattle.cell_grid.specs.Rows.{DrawnRow, rows_of}
use Rattle.cell_grid.specs.Runs.{run_entries}
use Rattle.cell_grid.specs.Grids.{DrawnGrid, grid_of}
unfoldable pub use Rattle.unicode_tables.specs.Classes.{is_segment_separator}

-- a code point separates segments, as a tab does
abbrev pub separates_segments : TableValues → ℕ → Bool
separates_segments tables c = is_segment_separator (bidi_of tables c)

-- the first of these code points separates segments
abbrev pub begins_with_tab : TableValues → List ℕ → Bool
begins_with_tab tables [] = false
begins_with_tab tables (c ∷ rest) = separates_segments tables c

-- UAX #9, L4: a cluster of these code points as it is shown at a level
abbrev pub mirrored_text : TableValues → (level : ℕ) → List ℕ → List ℕ
mirrored_text tables level cluster = encode_utf8_all (map (λ c. mirrored_of tables c level) cluster)

-- a cluster that begins with a tab is shown as one space for each of its columns
abbrev pub cluster_text : TableValues → (level columns : ℕ) → List ℕ → List ℕ
cluster_text tables level columns cluster =
    if begins_with_tab tables cluster then replicate columns 32 else mirrored_text tables level cluster

-- what stands at a span
abbrev pub slice_of : List ℕ → Span → List ℕ
slice_of text s = slice_range text s.first_byte s.end_byte

-- the code points of an entry's cluster
abbrev pub cluster_of : List ℕ → Entry → List ℕ
cluster_of text e = code_points (slice_range text e.span.first_byte e.span.end_byte)

abbrev pub entry_text : TableValues → (text : List ℕ) → Option Entry → List ℕ
entry_text tables text None = []
entry_text tables text (Some e) = cluster_text tables e.level e.columns (cluster_of text e)

-- a text over this many columns: none where there is no column
abbrev pub text_over : (columns : ℕ) → List ℕ → List ℕ
text_over zero shown = []
text_over (suc n) shown = shown

-- what the cells of an entry print together
abbrev pub own_text : TableValues → (text : List ℕ) → Entry → List ℕ
own_text tables text e = text_over e.columns (entry_text tables text (Some e))

-- what the cells of a run's entries print, in whichever column it begins
abbrev pub run_text : TableValues → (text : List ℕ) → ClusterRun → List ℕ
run_text tables text r = flat_map (own_text tables text) (run_entries 0 r)

-- the clusters of a run as they stand in the text, from the left
abbrev pub run_slices : (text : List ℕ) → ClusterRun → List ℕ
run_slices text r = flat_map (λ (e : Entry). slice_of text e.span) (run_entries 0 r)

-- how many bytes the cells of each entry of a row print, from the left
abbrev pub own_sizes : TableValues → (text : List ℕ) → DrawnRow → List ℕ
own_sizes tables text r = map (λ (e : Entry). length (own_text tables text e)) r.entries

-- what a cell prints: a head its cluster, a tail nothing, a blank one space
abbrev pub cell_text : TableValues → (text : List ℕ) → List Entry → Cell → List ℕ
cell_text tables text entries Blank = 32 ∷ []
cell_text tables text entries (Head n) = entry_text tables text (slice_get entries n)
cell_text tables text entries (Tail n) = []

abbrev pub row_text : TableValues → (text : List ℕ) → DrawnRow → List ℕ
row_text tables text r = flat_map (cell_text tables text r.entries) r.cells ++ 10 ∷ []

-- print of a paragraph of this text, by itself
abbrev pub printed_paragraph : TableValues → (width : ℕ) → Base → List ℕ → List ℕ
printed_paragraph tables width base text = flat_map (row_text tables text) (rows_of tables width base text)

-- print of a grid
abbrev pub printed : DrawnGrid → List ℕ
printed g = flat_map (row_text g.tables g.text) g.rows

-- print of the row with this number
abbrev pub printed_row : DrawnGrid → (number : ℕ) → List ℕ
printed_row g number = option_map_or (row_text g.tables g.text) (slice_get g.rows number) []

-- of each entry of that row, how many bytes its cells have there
abbrev pub printed_sizes : DrawnGrid → (number : ℕ) → List ℕ
printed_sizes g number = option_map_or (own_sizes g.tables g.text) (slice_get g.rows number) []

-- print of the grid of a text at a width and a base
abbrev pub shown : TableValues → (width : ℕ) → Base → List ℕ → List ℕ
shown tables width base text = printed (grid_of tables width base text)

-- how many bytes a print has was answered, or, where they are 2^64 or more, a fault
abbrev pub IsSizeOf : {E : Type 0} → (print : List ℕ) → Result ℕ E → Type 0
IsSizeOf print answer = MatchResult answer (λ size. size ≡ length print) (λ _. 2 ^ 64 ≤ length print)
