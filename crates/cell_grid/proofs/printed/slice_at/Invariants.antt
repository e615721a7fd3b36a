-- The runs so far print what stands in the text up to where they end.
use Rattle.std.proofs.Common.{◌≡◌, ◌≤◌, take, flat_map, slice_range}
use Rattle.std.specs.Str.{IsCharBoundary}
use Rattle.cell_grid.specs.Print.{run_text}
use Rattle.cell_grid.proofs.printed.slice_at.Given as goal

abbrev pub invariant-loop-number : goal.invariant-loop-number
invariant-loop-number l = record {
  order : l.start ≤ l.end;
  boundary : IsCharBoundary l.text l.end;
  text : flat_map (run_text l.tables l.text) (take l.number l.runs) ≡ slice_range l.text l.start l.end;
}
