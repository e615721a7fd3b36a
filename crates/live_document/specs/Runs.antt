-- Runs of calls of a document.
use Rattle.std.specs.Prelude.{◌≡◌, ◌-◌, ℕ, Bool, true, false, List, [], ◌∷◌}
use Rattle.bg_types.specs.declared.class.Base.{Base}
use Rattle.bg_types.specs.declared.op.OpView.{OpView}
use Rattle.bg_types.specs.OperationSet.{OperationSet, with_operation, union}
use Rattle.desk_replica.specs.Merging.{with_operations}
use Rattle.desk_replica.specs.Replacement.{typed_text, deletions, replacement}
use Rattle.live_document.specs.Documents.{LiveDocument, IsDrawnAlike, window_round}
use Rattle.live_document.specs.Showing.{no_window}

-- a call: the operation that is taken, or what the desk has that is merged; what is typed, erased or replaced, by places; the
-- new width or base; how many rows may be kept; the place of the window that is shown, and how many rows above and below it
pub data DocumentCall : Type 0 where
  Takes : OpView → DocumentCall
  Merges : OperationSet → DocumentCall
  Types : (place : ℕ) → List ℕ → DocumentCall
  Erases : (from to : ℕ) → DocumentCall
  Replaces : (from to : ℕ) → List ℕ → DocumentCall
  Resizes : (width : ℕ) → DocumentCall
  Turns : Base → DocumentCall
  Keeps : (rows : ℕ) → DocumentCall
  Shows : (place above below : ℕ) → DocumentCall

-- the desk has this set now, and nothing is shown; where the call was refused all is as it was
pub record IsChanged (old : LiveDocument) (set : OperationSet) (refused : Bool) (new : LiveDocument) : Type 0 where
  pub drawn : IsDrawnAlike old new
  pub set_is : refused ≡ false → new.desk.set ≡ set
  pub window : refused ≡ false → new.window ≡ no_window
  pub same : refused ≡ true → new ≡ old

-- the desk has what both have, or, where the merge was refused, what it took up to then; nothing is shown
pub record IsMerged (old : LiveDocument) (other : OperationSet) (refused : Bool) (new : LiveDocument) : Type 0 where
  pub drawn : IsDrawnAlike old new
  pub set_is : refused ≡ false → new.desk.set ≡ union old.desk.set other
  pub window : new.window ≡ no_window

-- it is drawn at this width and base now, and nothing is shown
pub record IsTurned (old : LiveDocument) (width : ℕ) (base : Base) (new : LiveDocument) : Type 0 where
  pub desk : new.desk ≡ old.desk
  pub tables : new.tables ≡ old.tables
  pub width_is : new.width ≡ width
  pub base_is : new.base ≡ base
  pub most : new.most ≡ old.most
  pub window : new.window ≡ no_window

-- the window is shown, or nothing where there was no memory for it
pub record IsShown (old : LiveDocument) (place above below : ℕ) (refused : Bool) (new : LiveDocument) : Type 0 where
  pub drawn : IsDrawnAlike old new
  pub desk : new.desk ≡ old.desk
  pub window : refused ≡ false → new.window ≡ window_round old place above below
  pub nothing : refused ≡ true → new.window ≡ no_window

-- a call leads from one document to another
abbrev pub IsCall : LiveDocument → DocumentCall → (refused : Bool) → LiveDocument → Type 0
IsCall old (Takes op) refused new = IsChanged old (with_operation old.desk.set op) refused new
IsCall old (Merges other) refused new = IsMerged old other refused new
IsCall old (Types place characters) refused new = IsChanged old (with_operations old.desk.set (typed_text old.desk.set old.desk.site place characters)) refused new
IsCall old (Erases from to) refused new = IsChanged old (with_operations old.desk.set (deletions old.desk.set from (to - from))) refused new
IsCall old (Replaces from to characters) refused new = IsChanged old (with_operations old.desk.set (replacement old.desk.set old.desk.site from (to - from) characters)) refused new
IsCall old (Resizes width) refused new = IsTurned old width old.base new
IsCall old (Turns base) refused new = IsTurned old old.width base new
IsCall old (Keeps rows) refused new = new ≡ record old { most = rows }
IsCall old (Shows place above below) refused new = IsShown old place above below refused new

-- calls, one after the other, do
abbrev pub IsRun : LiveDocument → List DocumentCall → LiveDocument → Type 0
IsRun old [] new = new ≡ old
IsRun old (call ∷ calls) new = (next : LiveDocument) × (refused : Bool) × IsCall old call refused next × IsRun next calls new
