-- What a document is seen as.
use Rattle.std.specs.Prelude.{◌≡◌, ◌≤◌, ◌⊎◌, ℕ, Bool, true, false, Option, List, refl, option_map, map as each, encode_utf8_all}
use Rattle.std.specs.Coded.{Coded, code_by, coded×, coded_ℕ, coded_bool, coded_list, coded_option}
use Rattle.bg_types.specs.declared.class.Base.{Base}
use Rattle.bg_types.specs.contracts.class.Base.{the_row as base_row}
use Rattle.unicode_tables.specs.Tables.{TableValues}
use Rattle.unicode_tables.specs.contracts.tables.Tables.{the_row as tables_row}
use Rattle.bg_types.specs.OperationSet.{OperationSet}
use Rattle.rga_tree.specs.TextOf.{text}
use Rattle.desk_replica.specs.Desk.{Desk, coded_desk}
use Rattle.paragraphs.specs.Paragraphs.{paragraph_points}
use Rattle.text_buffer.specs.Buffers.{KeptParagraph, text_in}
use Rattle.text_buffer.specs.Edits.{anew}
use Rattle.cell_grid.specs.Rows.{DrawnRow}
use Rattle.cell_grid.specs.contracts.row.Row.{the_row as drawn_row}
use Rattle.cell_grid.specs.Grids.{DrawnGrid, grid_of, grid_rows}
use Rattle.cell_grid.specs.Windows.{DrawnWindow, window_of}
use Rattle.live_document.specs.declared.shown.Shown.{Shown}
use Rattle.live_document.specs.Keeping.{Rows, KeptText, rows_weight, weight_held, IsKeptAt}
use Rattle.live_document.specs.Showing.{window_in, no_window, IsAtHand}

-- a document: its desk; the tables, the width and the base that it is drawn at; the paragraphs of its text, each with what
-- the rows weigh that are kept of it, or nothing; whether they are behind, to be made anew by the next window, as those of a new
-- document are and those that a change had no memory for: a caller sees it by `text_size`, which doesn't know the size then; how many
-- rows may be kept, where a window doesn't need more; the window that is shown; how many paragraphs the last window took to lay out
pub record LiveDocument : Type 0 where
  pub desk : Desk
  pub tables : TableValues
  pub width : ℕ
  pub base : Base
  pub paragraphs : List (KeptParagraph ℕ)
  pub behind : Bool
  pub most : ℕ
  pub window : DrawnWindow
  pub laid : ℕ

abbrev pub counted : KeptParagraph Rows → KeptParagraph ℕ
counted p = record { points = p.points; kept = option_map rows_weight p.kept }

-- a document whose paragraphs are behind its desk keeps nothing
abbrev pub paragraphs_of : (behind : Bool) → TableValues → OperationSet → KeptText → List (KeptParagraph ℕ)
paragraphs_of true tables set kept = each anew (paragraph_points tables (text set))
paragraphs_of false tables set kept = each counted kept

-- nothing, or the rows of *Grid* of a set of operations round a place
abbrev pub IsWindowOf : OperationSet → TableValues → (width : ℕ) → Base → DrawnWindow → Type 0
IsWindowOf set tables width base window =
    (window ≡ no_window) ⊎ ((place : ℕ) × (above : ℕ) × (below : ℕ) × (window ≡ window_of above below place (grid_rows tables width base (encode_utf8_all (text set)))))

-- unless they are behind, the paragraphs are those of the desk's text; what is behind isn't shown. The rows that are kept weigh
-- no more than the number says
pub record IsLive (desk : Desk) (tables : TableValues) (width : ℕ) (base : Base) (behind : Bool) (kept : KeptText) (s : Shown) (held : ℕ) : Type 0 where
  pub kept_at : IsKeptAt tables width base kept
  pub text_is : behind ≡ false → text_in kept ≡ text desk.set
  pub unshown : behind ≡ true → window_in kept s ≡ no_window
  pub at_hand : IsAtHand kept s
  pub of_now : IsWindowOf desk.set tables width base (window_in kept s)
  pub held_is : weight_held kept ≤ held
  pub held_few : held ≤ 900_000_000_000_000

-- *Grid* of the desk's text
abbrev pub whole_grid : LiveDocument → DrawnGrid
whole_grid d = grid_of d.tables d.width d.base (encode_utf8_all (text d.desk.set))

abbrev pub whole_rows : LiveDocument → List DrawnRow
whole_rows d = (whole_grid d).rows

-- its rows from so many above the row of a place to so many below it
abbrev pub window_round : LiveDocument → (place above below : ℕ) → DrawnWindow
window_round d place above below = window_of above below place (whole_rows d)

-- what is shown, as a part of the grid of the desk's text
abbrev pub shown_grid : LiveDocument → DrawnGrid
shown_grid d = record { tables = d.tables; text = encode_utf8_all (text d.desk.set); rows = d.window.rows }

abbrev pub paragraph_code : Coded (KeptParagraph ℕ)
paragraph_code = code_by (List ℕ × Option ℕ) (coded× (coded_list coded_ℕ) (coded_option coded_ℕ)) (λ p. (p.points, p.kept)) (λ p. record { points = p.0; kept = p.1 }) (λ _. refl)

-- a document is stored as the tuple of its parts
abbrev pub live_code : Coded LiveDocument
live_code =
    code_by (Desk × (TableValues × (ℕ × (Base × (List (KeptParagraph ℕ) × (ℕ × ((List DrawnRow × ℕ) × (ℕ × Bool))))))))
    (coded× coded_desk (coded× tables_row.coded (coded× coded_ℕ (coded× base_row.coded (coded× (coded_list paragraph_code) (coded× coded_ℕ (coded× (coded× (coded_list drawn_row.coded) coded_ℕ) (coded× coded_ℕ coded_bool))))))))
    (λ d. (d.desk, (d.tables, (d.width, (d.base, (d.paragraphs, (d.most, ((d.window.rows, d.window.number), (d.laid, d.behind)))))))))
    (λ p. record {
      desk = p.0;
      tables = p.1.0;
      width = p.1.1.0;
      base = p.1.1.1.0;
      paragraphs = p.1.1.1.1.0;
      most = p.1.1.1.1.1.0;
      window = record { rows = p.1.1.1.1.1.1.0.0; number = p.1.1.1.1.1.1.0.1 };
      laid = p.1.1.1.1.1.1.1.0;
      behind = p.1.1.1.1.1.1.1.1;
    })
    (λ _. refl)

-- both are drawn by the same tables, at the same width and base, and may keep as many rows
pub record IsDrawnAlike (old new : LiveDocument) : Type 0 where
  pub tables : new.tables ≡ old.tables
  pub width : new.width ≡ old.width
  pub base : new.base ≡ old.base
  pub most : new.most ≡ old.most
