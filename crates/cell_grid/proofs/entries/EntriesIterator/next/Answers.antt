-- The entry that is next, and those that are left then.
use Rattle.std.proofs.Common.{◌+◌, length, get_or, refl, sym, ap, ◌∙◌, arith, rules}
use Rattle.std.proofs.lemmas.Bool.{eqb-true}
use Rattle.cell_grid.specs.declared.cluster_run.ClusterRun.{ClusterRun}
use Rattle.cell_grid.specs.KeptSpans.{no_span}
use Rattle.cell_grid.proofs.Passing.{some-runs, none-left, passed-within, fits-first, stays-left, one-passed, next-run, run-passed}
use Rattle.cell_grid.proofs.entries.EntriesIterator.next.Goals as goal

abbrev no_run : ClusterRun
no_run = record { span = no_span; level = 0; columns = 0 }

pub returns-then-is_empty-clause-steps : goal.returns-then-is_empty-clause-steps
returns-then-is_empty-clause-steps c =
    let inside = c.self.inside in
    let none = none-left inside.column inside.passed inside.runs.now (eqb-true _ _ (sym c.if-is_empty.ensures)) c.self.invariant in
    (sym c.self.view_is ∙ none, sym c.self.view_is ∙ none)

pub entry-entry-requires : goal.entry-entry-requires
entry-entry-requires c =
    let inside = c.self.inside in
    let runs = inside.runs.now in
    record {
      within = passed-within inside.column inside.passed runs (get_or runs 0 no_run) no_run (some-runs runs c.if-is_empty.ensures) refl c.self.invariant;
      reach = c.self.invariant.reach 0 no_run (some-runs runs c.if-is_empty.ensures);
      fits = fits-first inside.column inside.passed runs (get_or runs 0 no_run) no_run (some-runs runs c.if-is_empty.ensures) refl c.self.invariant;
    }

pub invariant_of-self : goal.invariant_of-self
invariant_of-self c =
    let inside = c.self.inside in
    let runs = inside.runs.now in
    stays-left inside.column inside.passed runs (get_or runs 0 no_run) no_run (some-runs runs c.if-is_empty.ensures) refl c.self.invariant (omega arith)

pub returns-then-self-run-clause-steps : goal.returns-then-self-run-clause-steps
returns-then-self-run-clause-steps c =
    let inside = c.self.inside in
    let runs = inside.runs.now in
    sym c.self.view_is ∙ one-passed inside.column inside.passed runs (get_or runs 0 no_run) no_run (some-runs runs c.if-is_empty.ensures) refl c.self.invariant (omega arith) c.entry-entry.result c.entry-entry.ensures

pub returns-then-self-run-clause-goes : goal.returns-then-self-run-clause-goes
returns-then-self-run-clause-goes c =
    let inside = c.self.inside in
    let runs = inside.runs.now in
    let step = sym c.self.view_is ∙ one-passed inside.column inside.passed runs (get_or runs 0 no_run) no_run (some-runs runs c.if-is_empty.ensures) refl c.self.invariant (omega arith) c.entry-entry.result c.entry-entry.ensures in
    let shorter = ap length step in search rules

pub invariant_of-self-2 : goal.invariant_of-self-2
invariant_of-self-2 c =
    let inside = c.self.inside in
    let runs = inside.runs.now in
    next-run inside.column inside.passed runs (get_or runs 0 no_run) no_run (some-runs runs c.if-is_empty.ensures) refl c.self.invariant (omega arith)
    (inside.column + c.all_columns.result) c.split_at.result.1.now (ap (λ n. inside.column + n) c.all_columns.ensures) c.split_at.ensures.back

pub returns-clause-steps : goal.returns-clause-steps
returns-clause-steps c =
    let inside = c.self.inside in
    let runs = inside.runs.now in
    sym c.self.view_is ∙ run-passed inside.column inside.passed runs (get_or runs 0 no_run) no_run (some-runs runs c.if-is_empty.ensures) refl c.self.invariant (omega arith) c.entry-entry.result
    (inside.column + c.all_columns.result) c.split_at.result.1.now c.entry-entry.ensures (ap (λ n. inside.column + n) c.all_columns.ensures) c.split_at.ensures.back

pub returns-clause-goes : goal.returns-clause-goes
returns-clause-goes c =
    let inside = c.self.inside in
    let runs = inside.runs.now in
    let step = sym c.self.view_is ∙ run-passed inside.column inside.passed runs (get_or runs 0 no_run) no_run (some-runs runs c.if-is_empty.ensures) refl c.self.invariant (omega arith) c.entry-entry.result
    (inside.column + c.all_columns.result) c.split_at.result.1.now c.entry-entry.ensures (ap (λ n. inside.column + n) c.all_columns.ensures) c.split_at.ensures.back in
    let shorter = ap length step in search rules
