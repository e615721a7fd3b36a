-- One entry after the other.
use Rattle.std.proofs.Common.{◌<◌, ◌≤◌, ◌+◌, ◌++◌, List, length, take, drop, flat_map, sym, ap, subst, ◌∙◌, arith, append_assoc}
use Rattle.cell_grid.specs.declared.entry.Entry.{Entry}
use Rattle.cell_grid.specs.Held.{AppendsAllBut}
use Rattle.cell_grid.specs.Print.{own_text}
use Rattle.cell_grid.specs.Runs.{cluster_count, run_entries}
use Rattle.cell_grid.proofs.HeldEnd.{but-start, but-on, but-cut}
use Rattle.cell_grid.proofs.RunEntries.{length-run_entries}
use Rattle.cell_grid.proofs.RunPrinting.{entry-within, entry-read, entry-slice}
use Rattle.cell_grid.proofs.Steps.{take-whole, flat_map-take_next, flat_map-split_at}
use Rattle.cell_grid.proofs.Writing.{on_err}
use Rattle.cell_grid.proofs.printed.hold_clusters.Goals as goal

pub loop-number-init : goal.loop-number-init
loop-number-init g c = record { working = c.requires.working; so_far = but-start (g.W.Sink.written c.args.sink.now) c.args.held.now.bytes }

pub overflow_cast-number : goal.overflow_cast-number
overflow_cast-number g c = let most = c.count-number-end.ensures.most in record { fits = omega arith }

pub entry-entry-requires : goal.entry-entry-requires
entry-entry-requires g c =
    let count = c.count-number-end.ensures.number in
    let fits = c.requires.run.columns in
    record { within = omega arith; reach = c.requires.run.reach; fits = omega arith }

pub hold_cells-requires-clause-entry : goal.hold_cells-requires-clause-entry
hold_cells-requires-clause-entry g c =
    let count = c.count-number-end.ensures.number in
    entry-slice c.args.text.now c.args.run.now c.requires.run c.loop-number.number c.entry-entry.result (omega arith) c.entry-entry.ensures

pub loop-number-preserved : goal.loop-number-preserved
loop-number-preserved g c =
    let text = c.args.text.now in
    let r = c.args.run.now in
    let f = own_text c.args.tables.now text in
    let n = c.loop-number.number in
    let e = c.entry-entry.result in
    let count = c.count-number-end.ensures.number in
    let lt : n < cluster_count r = omega arith in
    let before = c.args.held.now.bytes in
    let done = flat_map f (take n (run_entries 0 r)) in
    record {
      working = c.in_ok-hold_cells.ensures.failed;
      so_far =
          but-on _ _ _ (before ++ done) _ c.loop-number.invariant.so_far (f e) _ _ c.in_ok-hold_cells.ensures.ok
          (ap (λ t. before ++ t) (flat_map-take_next f (run_entries 0 r) n e e (entry-within text r n lt) (entry-read text r n e e lt c.entry-entry.ensures)) ∙ sym (append_assoc before done (f e)));
    }

pub returns-in_err-hold_cells-clause-err : goal.returns-in_err-hold_cells-clause-err
returns-in_err-hold_cells-clause-err g c =
    let text = c.args.text.now in
    let r = c.args.run.now in
    let f = own_text c.args.tables.now text in
    let n = c.loop-number.number in
    let e = c.entry-entry.result in
    let count = c.count-number-end.ensures.number in
    let lt : n < cluster_count r = omega arith in
    let before = c.args.held.now.bytes in
    let done = flat_map f (take n (run_entries 0 r)) in
    let rest = flat_map f (drop (n + 1) (run_entries 0 r)) in
    on_err c.from_residual.result
    (but-cut _ _ _ (before ++ done) _ c.loop-number.invariant.so_far (f e) rest _ c.in_err-hold_cells.ensures.err
    (ap (λ t. before ++ t) (flat_map-split_at f (run_entries 0 r) n e e (entry-within text r n lt) (entry-read text r n e e lt c.entry-entry.ensures)) ∙ sym (append_assoc before done (f e ++ rest))))

pub returns-clause-ok : goal.returns-clause-ok
returns-clause-ok g c =
    let r = c.args.run.now in
    let f = own_text c.args.tables.now c.args.text.now in
    let count = c.count-number-end.ensures.number in
    let len = length-run_entries 0 r in
    let all : length (run_entries 0 r) ≤ c.loop-number.number = omega arith in
    subst (λ (l : List Entry). AppendsAllBut (g.W.Sink.written c.args.sink.now) (g.W.Sink.written c.loop-number.sink) (c.args.held.now.bytes ++ flat_map f l) c.loop-number.held.bytes)
    (take-whole (run_entries 0 r) c.loop-number.number all) c.loop-number.invariant.so_far
