-- The first runs of those that are left, again and again.
use Rattle.std.proofs.Common.{◌++◌, List, take, drop, flat_map, sym, subst}
use Rattle.std.proofs.lemmas.List.Elements.{All-drop}
use Rattle.std.specs.List.{All}
use Rattle.cell_grid.specs.declared.cluster_run.ClusterRun.{ClusterRun}
use Rattle.cell_grid.specs.Held.{AppendsAllBut}
use Rattle.cell_grid.specs.Print.{run_text}
use Rattle.cell_grid.specs.Printable.{IsPrintable}
use Rattle.cell_grid.proofs.HeldEnd.{but-cut_end, but-through}
use Rattle.cell_grid.proofs.Printing.{pieces-parts}
use Rattle.cell_grid.proofs.Writing.{on_err}
use Rattle.cell_grid.proofs.printed.hold_runs.Goals as goal

pub returns-in_err-count-clause-err : goal.returns-in_err-count-clause-err
returns-in_err-count-clause-err g c = on_err c.from_residual.result (but-cut_end _ _ _ _ _ c.loop-rest.invariant.so_far c.in_err-count.ensures.err)

pub loop-rest-preserved : goal.loop-rest-preserved
loop-rest-preserved g c =
    let f = run_text c.args.tables.now c.args.text.now in
    let rest = c.loop-rest.rest.now in
    let count = c.in_ok-count.count in
    let old = g.W.Sink.written c.args.sink.now in
    let mid = g.W.Sink.written c.loop-rest.sink in
    let new = g.W.Sink.written c.hold_first.new.sink in
    let whole = c.args.held.now.bytes ++ flat_map f c.args.runs.now in
    record {
      working = c.in_ok-count.ensures.failed;
      runs = subst (All (IsPrintable c.args.text.now)) (sym c.split_at.ensures.back) (All-drop (IsPrintable c.args.text.now) count rest c.loop-rest.invariant.runs);
      so_far =
          subst (λ (l : List ClusterRun). AppendsAllBut old new whole (c.hold_first.new.held.bytes ++ flat_map f l)) (sym c.split_at.ensures.back)
          (but-through old mid new whole c.loop-rest.held.bytes (flat_map f (take count rest)) (flat_map f (drop count rest)) c.hold_first.new.held.bytes
          (subst (λ t. AppendsAllBut old mid whole (c.loop-rest.held.bytes ++ t)) (pieces-parts f rest count) c.loop-rest.invariant.so_far) c.in_ok-count.ensures.ok);
    }
