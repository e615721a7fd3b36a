-- The run that holds the column, and in it the entry.
use Rattle.std.proofs.Common.{◌≡◌, ◌+◌, length, drop, get_or, refl, sym, ap, ◌∙◌, arith}
use Rattle.std.proofs.lemmas.List.{drop-drop}
use Rattle.cell_grid.specs.declared.cluster_run.ClusterRun.{ClusterRun}
use Rattle.cell_grid.specs.KeptSpans.{no_span}
use Rattle.cell_grid.specs.Runs.{cluster_count, run_columns, runs_columns, runs_entries}
use Rattle.cell_grid.proofs.RunEntries.{rest-drop, rest-length, rest-columns}
use Rattle.cell_grid.proofs.Seeing.{before-all, behind-all, some, seen-head, seen-tail}
use Rattle.cell_grid.proofs.Steps.{drop-none}
use Rattle.cell_grid.proofs.cell.cell_in.Goals as goal

abbrev no_run : ClusterRun
no_run = record { span = no_span; level = 0; columns = 0 }

pub returns-then-column-left : goal.returns-then-column-left
returns-then-column-left c = before-all c.args.start c.args.column c.args.runs.now (omega arith)

pub loop-run-init : goal.loop-run-init
loop-run-init c =
    let runs = c.args.runs.now in
    let at = c.from-left.ensures in
    record {
      among = ap (λ n. runs_entries n runs) (sym at);
      counted = (let same = ap (λ n. length (runs_entries n runs)) at in omega arith);
      end = ap (λ n. n + runs_columns runs) at;
      behind = omega arith;
    }

pub nonzero_div-entry : goal.nonzero_div-entry
nonzero_div-entry c =
    let runs = c.args.runs.now in
    let i = c.loop-run.run-index in
    let own = c.all_columns.ensures in
    let is_some = some c.args.start c.args.column runs c.loop-run.number c.loop-run.left i (get_or runs i no_run) no_run c.loop-run-test.true refl
    c.loop-run.invariant.among c.loop-run.invariant.behind (omega arith) c.from-columns.result c.from-columns.ensures in
    omega arith

pub returns-then-behind-columns-eq0 : goal.returns-then-behind-columns-eq0
returns-then-behind-columns-eq0 c =
    let runs = c.args.runs.now in
    let i = c.loop-run.run-index in
    let own = c.all_columns.ensures in
    seen-head c.args.start c.args.column runs c.loop-run.number c.loop-run.left i (get_or runs i no_run) no_run c.loop-run-test.true refl
    c.loop-run.invariant.among c.loop-run.invariant.behind (omega arith) c.from-columns.result c.from-columns.ensures c.if-behind-columns-eq0.true

pub returns-then-column-end : goal.returns-then-column-end
returns-then-column-end c =
    let runs = c.args.runs.now in
    let i = c.loop-run.run-index in
    let own = c.all_columns.ensures in
    seen-tail c.args.start c.args.column runs c.loop-run.number c.loop-run.left i (get_or runs i no_run) no_run c.loop-run-test.true refl
    c.loop-run.invariant.among c.loop-run.invariant.behind (omega arith) c.from-columns.result c.from-columns.ensures c.if-behind-columns-eq0.false

pub loop-run-preserved : goal.loop-run-preserved
loop-run-preserved c =
    let runs = c.args.runs.now in
    let i = c.loop-run.run-index in
    let r = get_or runs i no_run in
    let left = c.loop-run.left in
    let number = c.loop-run.number in
    let all = runs_entries c.args.start runs in
    let own = c.all_columns.ensures in
    let count = c.count.ensures.number in
    let next : left + c.all_columns.result ≡ left + run_columns r = ap (λ n. left + n) own in
    let passed : number + c.count.result ≡ number + cluster_count r = ap (λ n. number + n) count in
    let wide = rest-columns left runs i r no_run c.loop-run-test.true refl in
    let many = rest-length left runs i r no_run c.loop-run-test.true refl in
    let same = ap (λ n. length (runs_entries n (drop (i + 1) runs))) next in
    let so_far = c.loop-run.invariant.counted in
    let end = c.loop-run.invariant.end in
    record {
      among =
          ap (λ n. drop n all) passed ∙ sym (drop-drop (cluster_count r) number all)
          ∙ ap (drop (cluster_count r)) c.loop-run.invariant.among
          ∙ rest-drop left runs i r no_run c.loop-run-test.true refl
          ∙ ap (λ n. runs_entries n (drop (i + 1) runs)) (sym next);
      counted = omega arith;
      end = omega arith;
      behind = omega arith;
    }

pub returns : goal.returns
returns c =
    let runs = c.args.runs.now in
    let i = c.loop-run.run-index in
    let none = ap runs_columns (drop-none runs i c.loop-run-test.false) in
    let end = c.loop-run.invariant.end in
    let behind = c.loop-run.invariant.behind in
    behind-all c.args.start c.args.column runs (omega arith)
