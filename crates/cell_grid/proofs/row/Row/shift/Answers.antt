-- Shifted entries stand in the same columns.
use Rattle.std.proofs.Common.{◌≡◌, ◌+◌, ◌++◌, ℕ, List, length, map, take, drop, sym, ap, subst, ◌∙◌, arith}
use Rattle.std.proofs.lemmas.List.{take_at, length-map}
use Rattle.std.proofs.lemmas.List.Elements.{All-map, All-weaker}
use Rattle.std.specs.List.{All}
use Rattle.cell_grid.specs.declared.cluster_run.ClusterRun.{ClusterRun}
use Rattle.cell_grid.specs.declared.entry.Entry.{Entry}
use Rattle.cell_grid.specs.Cells.{StandWithin}
use Rattle.cell_grid.specs.Rows.{DrawnRow, shifted, shifted_entry}
use Rattle.cell_grid.specs.Runs.{runs_entries, shifted_run, IsInReach, AreKept, MayShiftRun}
use Rattle.cell_grid.specs.Shifting.{MayShift, MayShiftRow}
use Rattle.cell_grid.proofs.Celled.{row_by, row_by-shifted, StandWithin-shifted}
use Rattle.cell_grid.proofs.Reaching.{may-shift-runs, reach-shifted, runs-shifted}
use Rattle.cell_grid.proofs.row.Row.shift.Goals as goal

-- the row's runs, which were lent as a slice and written whole, are shifted
items-shifted : (bytes places n : ℕ) (runs lent new : List ClusterRun) → n ≡ length runs → length new ≡ length lent → lent ≡ runs → new ≡ map (shifted_run bytes places) lent
    → take n (new ++ drop (length new) runs) ≡ map (shifted_run bytes places) runs
items-shifted bytes places n runs lent new len same value is = take_at new (drop (length new) runs) n (same ∙ ap length value ∙ sym len) ∙ is ∙ ap (map (shifted_run bytes places)) value

kept-shifted : (width start count bytes places : ℕ) (runs : List ClusterRun) → AreKept width start count runs → All (MayShiftRun bytes places) runs → AreKept width start count (map (shifted_run bytes places) runs)
kept-shifted width start count bytes places runs h may =
    let is = runs-shifted bytes places start runs in
    record {
      wide = h.wide;
      stand = subst (StandWithin width start) (sym is) (StandWithin-shifted width start bytes places (runs_entries start runs) h.stand);
      reach = All-map IsInReach (shifted_run bytes places) runs (All-weaker (MayShiftRun bytes places) (λ r. IsInReach (shifted_run bytes places r)) (reach-shifted bytes places) runs may);
      counted = ap length is ∙ length-map (runs_entries start runs) (shifted_entry bytes places) ∙ h.counted;
    }

-- the runs of a row that may be shifted may be
runs-of : (bytes places start : ℕ) (runs : List ClusterRun) (row : DrawnRow) → row.entries ≡ runs_entries start runs → MayShiftRow bytes places row → All (MayShiftRun bytes places) runs
runs-of bytes places start runs row is h = may-shift-runs bytes places start runs (subst (All (λ (e : Entry). MayShift bytes places e.span)) is h.entries)

pub shift_runs-requires : goal.shift_runs-requires
shift_runs-requires c =
    let inside = c.self.inside in
    subst (All (MayShiftRun c.args.bytes c.args.places)) (sym c.deref_mut.ensures.value)
    (runs-of c.args.bytes c.args.places inside.start inside.runs.items _ (sym (ap (λ (r : DrawnRow). r.entries) c.self.view_is)) c.requires)

pub invariant_of-self : goal.invariant_of-self
invariant_of-self c =
    let inside = c.self.inside in
    let items =
    items-shifted c.args.bytes c.args.places inside.runs.len inside.runs.items c.deref_mut.result.now c.shift_runs.new.runs (omega arith) (omega arith)
    c.deref_mut.ensures.value c.shift_runs.ensures in
    subst (AreKept inside.width inside.start inside.count) (sym items)
    (kept-shifted inside.width inside.start inside.count c.args.bytes c.args.places inside.runs.items c.self.invariant
    (runs-of c.args.bytes c.args.places inside.start inside.runs.items _ (sym (ap (λ (r : DrawnRow). r.entries) c.self.view_is)) c.requires))

pub returns : goal.returns
returns c =
    let inside = c.self.inside in
    let items =
    items-shifted c.args.bytes c.args.places inside.runs.len inside.runs.items c.deref_mut.result.now c.shift_runs.new.runs (omega arith) (omega arith)
    c.deref_mut.ensures.value c.shift_runs.ensures in
    ap (λ (l : List ClusterRun). row_by inside.width inside.start (inside.first_place + c.args.places) (inside.last_place + c.args.places) inside.para_level (runs_entries inside.start l)) items
    ∙ ap (row_by inside.width inside.start (inside.first_place + c.args.places) (inside.last_place + c.args.places) inside.para_level)
    (runs-shifted c.args.bytes c.args.places inside.start inside.runs.items)
    ∙ row_by-shifted inside.width inside.start inside.first_place inside.last_place inside.para_level c.args.bytes c.args.places (runs_entries inside.start inside.runs.items)
    ∙ ap (shifted c.args.bytes c.args.places) c.self.view_is
