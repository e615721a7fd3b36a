-- One row after the other.
use Rattle.std.proofs.Common.{sym, subst}
use Rattle.std.proofs.KnownBytes.{Appends-nil}
use Rattle.std.specs.Io.KnownBytes.{Appends}
use Rattle.cell_grid.specs.Print.{row_text}
use Rattle.cell_grid.specs.Printable.{AreSlices}
use Rattle.cell_grid.proofs.Writing.{on_err, pieces-on, pieces-cut_last, pieces-all}
use Rattle.cell_grid.proofs.printed.print_rows.Goals as goal

pub loop-row-init : goal.loop-row-init
loop-row-init g c = record { working = c.requires.working; so_far = Appends-nil (g.W.Sink.written c.args.sink.now) }

pub print_row-requires-clause-entries : goal.print_row-requires-clause-entries
print_row-requires-clause-entries g c =
    subst (AreSlices c.args.text.now) (sym c.row-item.is) (c.requires.entries c.loop-row.row-index c.row-item.result c.loop-row-test.true)

pub returns-in_err-print_row-clause-err : goal.returns-in_err-print_row-clause-err
returns-in_err-print_row-clause-err g c =
    let f = row_text c.args.tables.now c.args.text.now in
    on_err c.from_residual.result
    (pieces-cut_last f c.args.rows.now c.loop-row.row-index c.row-item.result c.row-item.result c.loop-row-test.true c.row-item.is
    (g.W.Sink.written c.args.sink.now) (g.W.Sink.written c.loop-row.sink) (g.W.Sink.written c.print_row.new.sink) c.loop-row.invariant.so_far c.in_err-print_row.ensures.err)

pub loop-row-preserved : goal.loop-row-preserved
loop-row-preserved g c =
    let f = row_text c.args.tables.now c.args.text.now in
    record {
      working = c.in_ok-print_row.ensures.failed;
      so_far =
          pieces-on f c.args.rows.now c.loop-row.row-index c.row-item.result c.row-item.result c.loop-row-test.true c.row-item.is
          (g.W.Sink.written c.args.sink.now) (g.W.Sink.written c.loop-row.sink) (g.W.Sink.written c.print_row.new.sink) c.loop-row.invariant.so_far c.in_ok-print_row.ensures.ok;
    }

pub returns-clause-ok : goal.returns-clause-ok
returns-clause-ok g c =
    let f = row_text c.args.tables.now c.args.text.now in
    subst (Appends (g.W.Sink.written c.args.sink.now) (g.W.Sink.written c.loop-row.sink)) (pieces-all f c.args.rows.now c.loop-row.row-index c.loop-row-test.false) c.loop-row.invariant.so_far
