-- One run after the other is passed.
use Rattle.std.proofs.Common.{◌≡◌, ◌+◌, ◌-◌, drop, get_or, slice_get, Some, refl, sym, ap, ◌∙◌, arith}
use Rattle.cell_grid.specs.declared.cluster_run.ClusterRun.{ClusterRun}
use Rattle.cell_grid.specs.KeptSpans.{no_span}
use Rattle.cell_grid.specs.Runs.{cluster_count, run_columns, runs_entries}
use Rattle.cell_grid.proofs.RunEntries.{rest-first, rest-later, rest-columns}
use Rattle.cell_grid.proofs.Steps.{drop-none}
use Rattle.cell_grid.proofs.runs.entry_in.Goals as goal

abbrev no_run : ClusterRun
no_run = record { span = no_span; level = 0; columns = 0 }

pub loop-run-init : goal.loop-run-init
loop-run-init c = record { among = refl; fits = c.requires.fits }

pub entry-requires : goal.entry-requires
entry-requires c =
    let runs = c.args.runs.now in
    let i = c.loop-run.run-index in
    let r = get_or runs i no_run in
    let wide = rest-columns c.loop-run.column runs i r no_run c.loop-run-test.true refl in
    let fits = c.loop-run.invariant.fits in
    record { within = omega arith; reach = c.requires.reach i no_run c.loop-run-test.true; fits = omega arith }

pub returns-then-left-further : goal.returns-then-left-further
returns-then-left-further c =
    let runs = c.args.runs.now in
    let i = c.loop-run.run-index in
    let r = get_or runs i no_run in
    ap Some c.entry.ensures ∙ sym (rest-first c.loop-run.column runs i r no_run c.loop-run-test.true refl c.loop-run.left (omega arith)) ∙ c.loop-run.invariant.among

pub loop-run-preserved : goal.loop-run-preserved
loop-run-preserved c =
    let runs = c.args.runs.now in
    let i = c.loop-run.run-index in
    let r = get_or runs i no_run in
    let wide = rest-columns c.loop-run.column runs i r no_run c.loop-run-test.true refl in
    let fits = c.loop-run.invariant.fits in
    let own = c.all_columns.ensures in
    let left = c.loop-run.left - cluster_count r in
    let further = c.from-further.ensures in
    let same : c.loop-run.left - (c.from-further.result + 1) ≡ left = omega arith in
    let split : cluster_count r + left ≡ c.loop-run.left = omega arith in
    record {
      among =
          ap (λ n. slice_get (runs_entries (c.loop-run.column + n) (drop (i + 1) runs)) (c.loop-run.left - (c.from-further.result + 1))) own
          ∙ ap (slice_get (runs_entries (c.loop-run.column + run_columns r) (drop (i + 1) runs))) same
          ∙ sym (rest-later c.loop-run.column runs i r no_run c.loop-run-test.true refl left)
          ∙ ap (slice_get (runs_entries c.loop-run.column (drop i runs))) split ∙ c.loop-run.invariant.among;
      fits = omega arith;
    }

pub returns : goal.returns
returns c =
    let runs = c.args.runs.now in
    let i = c.loop-run.run-index in
    ap (λ l. slice_get (runs_entries c.loop-run.column l) c.loop-run.left) (sym (drop-none runs i c.loop-run-test.false)) ∙ c.loop-run.invariant.among
