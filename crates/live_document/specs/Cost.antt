-- What a window takes to lay out, and what changes leave of what is kept.
use Rattle.std.specs.Prelude.{◌≡◌, ◌⊎◌, ◌+◌, ◌-◌, ◌*◌, ◌<◌, ◌≤◌, ◌++◌, ℕ, Bool, true, false, not, min, max, is_some, List, [], ◌∷◌, length, take, drop, replicate, map as each, count_by, sum_by, slice_range}
use Rattle.std.specs.Option.{option_map_or}
use Rattle.bg_types.specs.declared.change.Change.{Change}
use Rattle.bg_types.specs.declared.class.Base.{Base}
use Rattle.unicode_tables.specs.Tables.{TableValues}
use Rattle.paragraphs.specs.Paragraphs.{paragraph_points}
use Rattle.cell_grid.specs.Rows.{DrawnRow}
use Rattle.cell_grid.specs.Windows.{row_at}
use Rattle.rga_tree.specs.TextOf.{text}
use Rattle.desk_replica.specs.Telling.{IsTold}
use Rattle.text_buffer.specs.Buffers.{KeptParagraph, paragraphs_in}
use Rattle.text_buffer.specs.Edits.{anew, IsTouched, AreTouched, Step}
use Rattle.text_buffer.specs.declared.touched.Touched.{Touched}
use Rattle.live_document.specs.Documents.{LiveDocument, whole_rows}
use Rattle.live_document.specs.Keeping.{rows_of_texts, is_kept}

-- ---- a window

-- the numbers of the first and the last of the rows from so many above the row of a place to so many below it
abbrev pub top_of : (place above : ℕ) → List DrawnRow → ℕ
top_of place above rows = row_at rows place - above

abbrev pub bottom_of : (place below : ℕ) → List DrawnRow → ℕ
bottom_of place below rows = min (length rows) (row_at rows place + below + 1) - 1

-- the paragraph with this number has the row with that one
pub record HasRow (tables : TableValues) (width : ℕ) (base : Base) (texts : List (List ℕ)) (number row : ℕ) : Type 0 where
  pub there : number < length texts
  pub begun : length (rows_of_texts tables width base (take number texts)) ≤ row
  pub within : row < length (rows_of_texts tables width base (take (number + 1) texts))

-- paragraphs are marked of which rows are kept
abbrev pub marks : List (KeptParagraph ℕ) → List Bool
marks paragraphs = each (λ (p : KeptParagraph ℕ). is_some p.kept) paragraphs

-- how many of those from one number up to another have no mark
abbrev pub unmarked : List Bool → (from to : ℕ) → ℕ
unmarked ms from to = count_by not (slice_range ms from to)

-- what the rows weigh that are kept
abbrev pub weight_kept : List (KeptParagraph ℕ) → ℕ
weight_kept paragraphs = sum_by (λ (p : KeptParagraph ℕ). option_map_or (λ weight. weight) p.kept 0) paragraphs

-- what those weigh of the paragraphs before one number and from another on
abbrev pub weight_outside : List (KeptParagraph ℕ) → (from to : ℕ) → ℕ
weight_outside paragraphs from to = weight_kept (take from paragraphs) + weight_kept (drop to paragraphs)

-- so much they may weigh: as the rows of four windows would with an entry of 20 bytes for each column, of 64 rows each or more, or
-- as many such rows as were asked for
abbrev pub allowed : (most width rows : ℕ) → ℕ
allowed most width rows = max most (4 * max rows 64) * (48 + 20 * width)

-- rows are kept of each paragraph from the one that has one row to the one that has another
pub record AreKept (tables : TableValues) (width : ℕ) (base : Base) (texts : List (List ℕ)) (ms : List Bool) (top bottom : ℕ) : Type 0 where
  pub first : ℕ
  pub last : ℕ
  pub order : first ≤ last
  pub top_in : HasRow tables width base texts first top
  pub bottom_in : HasRow tables width base texts last bottom
  pub kept : (k : ℕ) → first ≤ k → k ≤ last → is_kept ms k ≡ true

-- so they are of a document's, of which one has a row in a window
abbrev pub IsWindowKept : LiveDocument → (place above below : ℕ) → Type 0
IsWindowKept d place above below =
    AreKept d.tables d.width d.base (paragraphs_in d.paragraphs) (marks d.paragraphs) (top_of place above (whole_rows d)) (bottom_of place below (whole_rows d))

-- a window was laid out: its rows are those of the paragraphs from `first` up to `end`; so many of these were laid out as were
-- not kept, and all of them are kept now; what was kept of others stays, unless all weigh too much, and then so much of it goes
-- that they do not, or all; nothing more is kept of others, and the paragraphs are no longer behind
pub record IsLaidOut (old new : LiveDocument) (place above below : ℕ) : Type 0 where
  pub first : ℕ
  pub end : ℕ
  pub order : first < end
  pub top : HasRow new.tables new.width new.base (paragraphs_in new.paragraphs) first (top_of place above (whole_rows new))
  pub bottom : HasRow new.tables new.width new.base (paragraphs_in new.paragraphs) (end - 1) (bottom_of place below (whole_rows new))
  pub laid : new.laid ≡ unmarked (marks old.paragraphs) first end
  pub kept : (k : ℕ) → first ≤ k → k < end → is_kept (marks new.paragraphs) k ≡ true
  pub stays : weight_outside old.paragraphs first end + weight_kept (slice_range new.paragraphs first end) ≤ allowed new.most new.width (length new.window.rows)
      → (k : ℕ) → is_kept (marks old.paragraphs) k ≡ true → is_kept (marks new.paragraphs) k ≡ true
  pub no_more : (k : ℕ) → is_kept (marks new.paragraphs) k ≡ true → (is_kept (marks old.paragraphs) k ≡ true) ⊎ ((first ≤ k) × (k < end))
  pub held : (weight_kept new.paragraphs ≤ allowed new.most new.width (length new.window.rows)) ⊎ ((k : ℕ) → is_kept (marks new.paragraphs) k ≡ true → (first ≤ k) × (k < end))
  pub texts : paragraphs_in new.paragraphs ≡ paragraph_points new.tables (text new.desk.set)
  pub same : paragraphs_in new.paragraphs ≡ paragraphs_in old.paragraphs
  pub caught_up : new.behind ≡ false

-- ---- changes

-- nothing is kept of any paragraph
abbrev pub IsBare : List (KeptParagraph ℕ) → Type 0
IsBare paragraphs = paragraphs ≡ each anew (paragraphs_in paragraphs)

-- nothing is kept any more of these paragraphs
abbrev pub AreForgotten : (old new : List (KeptParagraph ℕ)) → Type 0
AreForgotten old new = new ≡ each anew (paragraphs_in old)

-- the paragraphs are behind, and nothing is kept of them
abbrev pub IsBehind : LiveDocument → Type 0
IsBehind d = (d.behind ≡ true) × IsBare d.paragraphs

-- an edit made the paragraphs anew that it met, and what is kept of the others stays; or there was no memory for that, and all are
-- behind
abbrev pub KeepsOthers : (old new : LiveDocument) → (from to : ℕ) → Type 0
KeepsOthers old new from to = IsBehind new ⊎ ((touched : Touched) × IsTouched old.paragraphs from to touched new.paragraphs)

-- so did changes, one after the other
abbrev pub KeepsUnchanged : (old new : LiveDocument) → List Change → Type 0
KeepsUnchanged old new changes = IsBehind new ⊎ AreTouched old.paragraphs changes new.paragraphs

-- so did those that are told of what a desk took
abbrev pub KeepsUntouched : (old new : LiveDocument) → Type 0
KeepsUntouched old new = IsBehind new ⊎ ((changes : List Change) × IsTold old.desk.set new.desk.set [] changes × AreTouched old.paragraphs changes new.paragraphs)

-- marks after edits: what these make anew has none
abbrev pub carried : List Step → List Bool → List Bool
carried [] ms = ms
carried (step ∷ steps) ms =
    carried steps (take step.touched.first ms ++ (replicate step.touched.new false ++ drop (step.touched.first + step.touched.old) ms))

-- of so many paragraphs those from one number up to another are marked
abbrev pub stretch_marks : (from to count : ℕ) → List Bool
stretch_marks from to count = replicate from false ++ (replicate (to - from) true ++ replicate (count - to) false)
