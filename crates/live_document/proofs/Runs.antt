-- Whatever was called, what is shown is a window of the text of now.
use Rattle.std.proofs.Common.{◌≡◌, inl, inr, ℕ, Bool, true, false, List, [], ◌∷◌, refl, sym, ap, subst, ◌∙◌}
use Rattle.std.specs.Prelude.{encode_utf8_all}
use Rattle.bg_types.specs.OperationSet.{OperationSet}
use Rattle.bg_types.specs.declared.class.Base.{Base}
use Rattle.rga_tree.specs.TextOf.{text}
use Rattle.desk_replica.specs.Desk.{Desk}
use Rattle.unicode_tables.specs.Tables.{TableValues}
use Rattle.cell_grid.specs.Grids.{grid_rows}
use Rattle.cell_grid.specs.Windows.{window_of}
use Rattle.live_document.specs.Documents.{LiveDocument, IsWindowOf, window_round}
use Rattle.live_document.specs.Runs.{DocumentCall, Takes, Merges, Types, Erases, Replaces, Resizes, Turns, Keeps, Shows, IsChanged, IsShown, IsCall, IsRun}

abbrev IsOfNow : LiveDocument → Type 0
IsOfNow d = IsWindowOf d.desk.set d.tables d.width d.base d.window

changed-of_now : (old new : LiveDocument) (set : OperationSet) (refused : Bool) → IsOfNow old → IsChanged old set refused new → IsOfNow new
changed-of_now old new set false of_now h = inl (h.window refl)
changed-of_now old new set true of_now h = subst IsOfNow (sym (h.same refl)) of_now

-- the same operations, drawn alike, have the same windows
pub same-windows : (one other : LiveDocument) (place above below : ℕ) → one.desk.set ≡ other.desk.set → one.tables ≡ other.tables → one.width ≡ other.width → one.base ≡ other.base
    → window_round one place above below ≡ window_round other place above below
same-windows one other place above below set tables width base =
    ap (λ (s : OperationSet). window_of above below place (grid_rows one.tables one.width one.base (encode_utf8_all (text s)))) set
    ∙ ap (λ (t : TableValues). window_of above below place (grid_rows t one.width one.base (encode_utf8_all (text other.desk.set)))) tables
    ∙ ap (λ (w : ℕ). window_of above below place (grid_rows other.tables w one.base (encode_utf8_all (text other.desk.set)))) width
    ∙ ap (λ (b : Base). window_of above below place (grid_rows other.tables other.width b (encode_utf8_all (text other.desk.set)))) base

shown-of_now : (old new : LiveDocument) (place above below : ℕ) (refused : Bool) → IsShown old place above below refused new → IsOfNow new
shown-of_now old new place above below true h = inl (h.nothing refl)
shown-of_now old new place above below false h =
    inr (place, above, below, h.window refl ∙ sym (same-windows new old place above below (ap (λ (d : Desk). d.set) h.desk) h.drawn.tables h.drawn.width h.drawn.base))

call-of_now : (old new : LiveDocument) (call : DocumentCall) (refused : Bool) → IsOfNow old → IsCall old call refused new → IsOfNow new
call-of_now old new (Takes op) refused of_now h = changed-of_now old new _ refused of_now h
call-of_now old new (Merges other) refused of_now h = inl h.window
call-of_now old new (Types place characters) refused of_now h = changed-of_now old new _ refused of_now h
call-of_now old new (Erases from to) refused of_now h = changed-of_now old new _ refused of_now h
call-of_now old new (Replaces from to characters) refused of_now h = changed-of_now old new _ refused of_now h
call-of_now old new (Resizes width) refused of_now h = inl h.window
call-of_now old new (Turns base) refused of_now h = inl h.window
call-of_now old new (Keeps rows) refused of_now h = subst IsOfNow (sym h) of_now
call-of_now old new (Shows place above below) refused of_now h = shown-of_now old new place above below refused h

pub run-of_now : (old new : LiveDocument) (calls : List DocumentCall) → IsOfNow old → IsRun old calls new → IsOfNow new
run-of_now old new [] of_now same = subst IsOfNow (sym same) of_now
run-of_now old new (call ∷ calls) of_now h = run-of_now h.0 new calls (call-of_now old h.0 call h.1 of_now h.2) h.3
