-- What the calls do to a document.
use Rattle.std.specs.Prelude.{◌≡◌, ◌⊎◌, ◌<◌, ◌≤◌, ℕ, max, true, false, List, [], length, take, None, Some}
use Rattle.bg_types.specs.declared.class.Base.{Base}
use Rattle.bg_types.specs.declared.op.OpView.{OpView}
use Rattle.bg_types.specs.Edit.{IsEdit}
use Rattle.unicode_tables.specs.Tables.{TableValues}
use Rattle.op_codec.specs.Spelling.{Spells}
use Rattle.rga_tree.specs.TextOf.{text, visible}
use Rattle.desk_replica.specs.Desk.{Desk, fresh}
use Rattle.desk_replica.specs.Telling.{IsTold}
use Rattle.desk_replica.specs.Taking.{AreTold}
use Rattle.cell_grid.specs.Rows.{DrawnRow}
use Rattle.cell_grid.specs.Windows.{row_at}
use Rattle.caret.specs.declared.caret.Caret.{Caret}
use Rattle.caret.specs.declared.position.Position.{Position}
use Rattle.caret.specs.Moves.{caret_under}
use Rattle.caret.specs.Positions.{position_at, position_of, position_moved, IsPositionOf}
use Rattle.live_document.specs.Cost.{weight_kept, AreForgotten, IsLaidOut, IsWindowKept, IsBehind, KeepsOthers, KeepsUnchanged, KeepsUntouched}
use Rattle.live_document.specs.Documents.{LiveDocument, whole_rows, window_round, IsDrawnAlike}
use Rattle.live_document.specs.Showing.{no_window}
use Rattle.c_documents.specs.declared.told_document.ToldDocument.{ToldDocument}
use Rattle.c_documents.specs.declared.numbers.ChangeNumbers.{ChangeNumbers}
use Rattle.c_documents.specs.declared.numbers.PositionNumbers.{PositionNumbers}
use Rattle.c_desks.specs.declared.numbers.Taken.{Taken}
use Rattle.c_documents.specs.declared.numbers.WindowNumbers.{WindowNumbers}
use Rattle.c_pictures.specs.Bases.{base_of}
use Rattle.c_documents.specs.Changes.{edit_changes}
use Rattle.c_answers.specs.Copying.{AreListed}
use Rattle.c_desks.specs.Desks.{IsTakenUpTo, IsMessageTaken, IsUnread, IsMergedWith}
use Rattle.c_pictures.specs.Drawing.{IsWidth}
use Rattle.c_desks.specs.Numbers.{IsSite, none_taken}
use Rattle.c_documents.specs.Numbers.{change_numbers, position_numbers, position_with, window_numbers}

-- nothing is told of an edit, a take or a merge
pub record IsSilent (d : ToldDocument) : Type 0 where
  pub told : d.told.items ≡ []
  pub all : d.lost ≡ false

-- both tell the same
pub record TellAlike (old new : ToldDocument) : Type 0 where
  pub told : new.told ≡ old.told
  pub lost : new.lost ≡ old.lost

-- ---- made and drawn

-- a new document of a desk, drawn by these tables at this width and the base with this number
pub record IsMade (tables : TableValues) (width base : ℕ) (desk : Desk) (new : ToldDocument) : Type 0 where
  pub desk_is : new.document.desk ≡ desk
  pub tables_are : new.document.tables ≡ tables
  pub width_is : new.document.width ≡ width
  pub base_is : base_of base ≡ Some new.document.base
  pub most : new.document.most ≡ 0
  pub hidden : new.document.window ≡ no_window
  pub silent : IsSilent new

-- why no document was made. Lack of memory comes after the others
abbrev pub IsNotMade : (site width base : ℕ) → (answer : ℕ) → Type 0
IsNotMade site width base answer =
    ((answer ≡ 9) × IsSite site × IsWidth width × (¬ (base_of base ≡ None)))
    ⊎ (((answer ≡ 112) × (¬ (IsSite site)))
    ⊎ (((answer ≡ 105) × (¬ (IsWidth width)))
    ⊎ ((answer ≡ 106) × (base_of base ≡ None))))

-- a new document of a site that has taken a file
pub record IsOpened (tables : TableValues) (site width base : ℕ) (file : List ℕ) (told : Taken) (new : ToldDocument) : Type 0 where
  pub desk : Desk
  pub taken : IsMessageTaken (fresh site) file desk told 0
  pub made : IsMade tables width base desk new

-- why none was made of a file
abbrev pub IsNotOpened : (site width base : ℕ) → (file : List ℕ) → Taken → (answer : ℕ) → Type 0
IsNotOpened site width base file told answer =
    (IsNotMade site width base answer × (told ≡ none_taken 0))
    ⊎ ((left : Desk) × IsMessageTaken (fresh site) file left told answer)

-- a document is drawn at this width and base from now on; nothing is shown then, and nothing kept of the same paragraphs. Its desk
-- and what it tells stay
pub record IsDrawnAt (old : ToldDocument) (width : ℕ) (base : Base) (new : ToldDocument) : Type 0 where
  pub desk : new.document.desk ≡ old.document.desk
  pub tables : new.document.tables ≡ old.document.tables
  pub width_is : new.document.width ≡ width
  pub base_is : new.document.base ≡ base
  pub forgotten : AreForgotten old.document.paragraphs new.document.paragraphs
  pub most : new.document.most ≡ old.document.most
  pub hidden : new.document.window ≡ no_window
  pub alike : TellAlike old new

-- so many rows may be kept from now on; all else stays, what is shown and told too
pub record KeepsRows (old : ToldDocument) (rows : ℕ) (new : ToldDocument) : Type 0 where
  pub document : new.document ≡ record old.document { most = rows }
  pub alike : TellAlike old new

-- so many new operations are paid for; all else stays, what is shown and told too
pub record IsPaidFor (old : ToldDocument) (operations : ℕ) (new : ToldDocument) : Type 0 where
  pub document : new.document ≡ record old.document { desk = record old.document.desk { spare = max old.document.desk.spare operations } }
  pub alike : TellAlike old new

-- ---- edited

-- an edit from one place up to another was followed: the document is drawn as before, nothing is shown, and what is kept of the
-- paragraphs stays that the edit didn't meet, unless there was no memory for that
pub record IsEditFollowed (old : LiveDocument) (from to : ℕ) (new : LiveDocument) : Type 0 where
  pub drawn : IsDrawnAlike old new
  pub hidden : new.window ≡ no_window
  pub kept : KeepsOthers old new from to

-- a document was edited: these characters stand in the place of those from one place up to another. Unless there was no memory
-- for it, it tells that as changes, and these lead from the text before to the text now
pub record IsEdited (old : ToldDocument) (from to : ℕ) (typed : List ℕ) (new : ToldDocument) : Type 0 where
  pub followed : IsEditFollowed old.document from to new.document
  pub told : new.lost ≡ false → new.told.items ≡ edit_changes from to typed
  pub edit : new.lost ≡ false → IsEdit (text old.document.desk.set) new.told.items (text new.document.desk.set)

-- ---- taking and merging

-- a document took the first operations of a list, as a desk does. Unless there was no memory to tell all, it tells of each of
-- them how the text changed, these changes lead from the text before to the text now, and what is kept of the paragraphs stays that
-- they didn't meet, unless there was no memory for that
pub record IsTakenInTurn (old : ToldDocument) (ops : List OpView) (new : ToldDocument) (count answer : ℕ) : Type 0 where
  pub desk : IsTakenUpTo old.document.desk ops new.document.desk count answer
  pub drawn : IsDrawnAlike old.document new.document
  pub none : count ≡ 0 → new.document ≡ old.document
  pub hidden : 0 < count → new.document.window ≡ no_window
  pub told : new.lost ≡ false → AreTold old.document.desk.set (take count ops) [] new.told.items
  pub edit : new.lost ≡ false → IsEdit (text old.document.desk.set) new.told.items (text new.document.desk.set)
  pub kept : new.lost ≡ false → KeepsUnchanged old.document new.document new.told.items
  pub behind : new.lost ≡ true → IsBehind new.document

-- a message was taken: its bytes spell operations, taken in order as far as the answer says; or it was not read, the document
-- is as it was, and nothing is told
abbrev pub IsHeard : ToldDocument → (bytes : List ℕ) → ToldDocument → Taken → (answer : ℕ) → Type 0
IsHeard old bytes new told answer =
    ((ops : List OpView) × Spells bytes ops × (told.operations ≡ length ops) × (told.frame ≡ 0) × IsTakenInTurn old ops new told.taken answer)
    ⊎ ((new.document ≡ old.document) × IsSilent new × IsUnread bytes told answer)

-- a document met another one, as desks do; nothing is shown, and what is kept of the paragraphs stays that this didn't change, unless
-- there was no memory for that. Unless there was none to tell all, it tells how the text changed, and these changes lead from the
-- text before to the text now
pub record IsMetWith (old : ToldDocument) (other : Desk) (new : ToldDocument) (answer : ℕ) : Type 0 where
  pub desk : IsMergedWith old.document.desk other new.document.desk answer
  pub drawn : IsDrawnAlike old.document new.document
  pub hidden : new.document.window ≡ no_window
  pub told : new.lost ≡ false → IsTold old.document.desk.set new.document.desk.set [] new.told.items
  pub edit : new.lost ≡ false → IsEdit (text old.document.desk.set) new.told.items (text new.document.desk.set)
  pub kept : KeepsUntouched old.document new.document

-- the changes that a document tells were listed; where there was no memory to tell all, the answer is 9, and none is
abbrev pub AreChangesTold : ToldDocument → (before after : List ChangeNumbers) → (count answer : ℕ) → Type 0
AreChangesTold d before after count answer =
    ((d.lost ≡ false) × AreListed change_numbers d.told.items before after count answer)
    ⊎ ((d.lost ≡ true) × (answer ≡ 9) × (after ≡ before) × (count ≡ 0))

-- ---- showing

-- a document was asked what it shows, or where a caret stands: its text, and how it is drawn and what it tells, are as before
pub record IsAsked (old new : ToldDocument) : Type 0 where
  pub desk : new.document.desk ≡ old.document.desk
  pub drawn : IsDrawnAlike old.document new.document
  pub alike : TellAlike old new

-- the window round a place is shown, of which only that was laid out that was not kept; and how many rows it has, and which of
-- them is the place's, was written
pub record IsShown (old : ToldDocument) (place above below : ℕ) (new : ToldDocument) (told : WindowNumbers) : Type 0 where
  pub window : new.document.window ≡ window_round old.document place above below
  pub laid_out : IsLaidOut old.document new.document place above below
  pub numbers : told ≡ window_numbers new.document.window
  pub asked : IsAsked old new

-- there is such a place, and so many rows round its own are shown
pub record MayShow (old : ToldDocument) (place above below : ℕ) : Type 0 where
  pub within : place ≤ length (visible old.document.desk.set)
  pub few_above : above ≤ 1_000
  pub few_below : below ≤ 1_000

-- there was no memory for it, which only a window takes of which not all is kept: nothing is shown then, and nothing kept
pub record IsRefusedMemory (old : ToldDocument) (place above below : ℕ) (new : ToldDocument) : Type 0 where
  pub may_show : MayShow old place above below
  pub not_kept : ¬ (IsWindowKept old.document place above below)
  pub nothing_shown : new.document.window ≡ no_window
  pub nothing_kept : weight_kept new.document.paragraphs ≡ 0
  pub asked : IsAsked old new

-- why it is not: no memory; no such place, or more rows than are shown, and the document is as it was
abbrev pub IsNotShown : (old : ToldDocument) → (place above below : ℕ) → (new : ToldDocument) → (answer : ℕ) → Type 0
IsNotShown old place above below new answer =
    ((answer ≡ 9) × IsRefusedMemory old place above below new)
    ⊎ (((answer ≡ 107) × (length (visible old.document.desk.set) < place) × (new ≡ old))
    ⊎ ((answer ≡ 108) × ((1_000 < above) ⊎ (1_000 < below)) × (new ≡ old)))

-- ---- positions

-- this position was written, and the rows from so many above that of a place to so many below it are shown
pub record IsPositionWritten (old : ToldDocument) (position : Position) (place around : ℕ) (new : ToldDocument) (told : PositionNumbers) : Type 0 where
  pub numbers : told ≡ position_numbers position
  pub window : new.document.window ≡ window_round old.document place around around
  pub asked : IsAsked old new

-- the position of a place, or of a column in the row of a place; the row was laid out, unless it was kept
abbrev pub IsPlaceWritten : ToldDocument → (place : ℕ) → ToldDocument → PositionNumbers → Type 0
IsPlaceWritten old place new told =
    (place ≤ length (visible old.document.desk.set))
    × IsLaidOut old.document new.document place 0 0
    × IsPositionWritten old (position_at (whole_rows old.document) place) place 0 new told

abbrev pub IsColumnWritten : ToldDocument → (place column : ℕ) → ToldDocument → PositionNumbers → Type 0
IsColumnWritten old place column new told =
    (place ≤ length (visible old.document.desk.set))
    × IsLaidOut old.document new.document place 0 0
    × IsPositionWritten old (position_of (whole_rows old.document) (caret_under (whole_rows old.document) (row_at (whole_rows old.document) place) column)) place 0 new told

-- why none was written: no memory; no such place, and the document is as it was
abbrev pub IsNoPlace : ToldDocument → (place : ℕ) → ToldDocument → (answer : ℕ) → Type 0
IsNoPlace old place new answer =
    ((answer ≡ 9) × (place ≤ length (visible old.document.desk.set)) × IsAsked old new)
    ⊎ ((answer ≡ 107) × (length (visible old.document.desk.set) < place) × (new ≡ old))

-- a caret's row was looked for: the row of this place was laid out, unless it was kept; or the text has no such place
pub record IsRowSought (old new : LiveDocument) (place : ℕ) : Type 0 where
  pub laid_out : place ≤ length (visible old.desk.set) → IsLaidOut old new place 0 0
  pub outside : length (visible old.desk.set) < place → new.paragraphs ≡ old.paragraphs

-- a caret's row was found, and then it was laid out with its neighbours, each unless it was kept
pub record AreNeighboursFound (old new : LiveDocument) (place : ℕ) : Type 0 where
  pub found : LiveDocument
  pub row : IsLaidOut old found place 0 0
  pub neighbours : IsLaidOut found new place 1 1

-- a caret of the text's grid was moved by this move
abbrev pub IsMoved : (List DrawnRow → Caret → Caret) → ToldDocument → (from : PositionNumbers) → ToldDocument → (to : PositionNumbers) → Type 0
IsMoved move old from new to =
    IsPositionOf (whole_rows old.document) (position_with from)
    × AreNeighboursFound old.document new.document from.row
    × IsPositionWritten old (position_moved move (whole_rows old.document) (position_with from)) from.row 1 new to

-- why it was not: no memory, which finding the row may take too, or the grid has no such row, or the row no such gap; it is as it
-- was
abbrev pub IsUnmoved : ToldDocument → (from : PositionNumbers) → ToldDocument → (to : PositionNumbers) → (answer : ℕ) → Type 0
IsUnmoved old from new to answer =
    ((answer ≡ 9) ⊎ ((answer ≡ 110) × (¬ (IsPositionOf (whole_rows old.document) (position_with from))) × IsRowSought old.document new.document from.row))
    × (to ≡ from)
    × IsAsked old new
