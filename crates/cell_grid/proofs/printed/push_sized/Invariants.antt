-- The clusters so far are put, the next one ends here, and there is room for those that are left.
use Rattle.std.proofs.Common.{◌≡◌, ◌+◌, ◌-◌, ◌*◌, ◌≤◌, ◌++◌, length, take, flat_map}
use Rattle.cell_grid.specs.declared.entry.Entry.{Entry}
use Rattle.cell_grid.specs.Print.{slice_of}
use Rattle.cell_grid.specs.Runs.{run_span, byte_count, cluster_count, run_entries}
use Rattle.cell_grid.proofs.printed.push_sized.Given as goal

abbrev pub invariant-loop : goal.invariant-loop
invariant-loop l = record {
  end : l.end ≡ (run_span l.fn.run).first_byte + (cluster_count l.fn.run - l.counter) * byte_count (run_span l.fn.run);
  so_far : l.held.bytes ≡ l.fn.held.bytes ++ flat_map (λ (e : Entry). slice_of l.text e.span) (take l.counter (run_entries 0 l.fn.run));
  room : length l.held.bytes + (cluster_count l.fn.run - l.counter) * byte_count (run_span l.fn.run) ≤ 256;
}
