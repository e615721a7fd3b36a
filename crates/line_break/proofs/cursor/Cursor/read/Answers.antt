-- The run tells where the cluster stands, and its columns.
use Rattle.std.proofs.Common.{refl, arith}
use Rattle.line_break.proofs.Counting.{count-all}
use Rattle.line_break.proofs.Reading.{count-lines, few-lines, found}
use Rattle.line_break.proofs.cursor.Cursor.read.Goals as goal

pub seek-requires-clause-few : goal.seek-requires-clause-few
seek-requires-clause-few c =
    let text = c.args.text.now in
    let joined = c.clusters_join.ensures.joined text c.utf8.text in
    let all = count-lines text joined (c.clusters_join.ensures.utf8 text c.utf8.text) c.args.tables.now c.args.runs.now c.requires.runs in
    let few = few-lines c.args.tables.now text joined (c.clusters_join.ensures.some text) in
    omega (arith, c.requires.size)

pub returns-then-self-runs-clause-read : goal.returns-then-self-runs-clause-read
returns-then-self-runs-clause-read c =
    let text = c.args.text.now in
    let all = count-lines text (c.clusters_join.ensures.joined text c.utf8.text) (c.clusters_join.ensures.utf8 text c.utf8.text) c.args.tables.now c.args.runs.now c.requires.runs in
    let passed = count-all c.args.runs.now c.seek.new.self.run (omega (arith, c.if-self-runs.true)) in
    let first = c.seek.ensures.before.first in
    let order = c.seek.ensures.before.order in
    omega arith

pub overflow_mul-first : goal.overflow_mul-first
overflow_mul-first c =
    let text = c.args.text.now in
    let f =
    found text (c.clusters_join.ensures.joined text c.utf8.text) (c.clusters_join.ensures.utf8 text c.utf8.text) c.args.tables.now c.args.runs.now c.requires.runs
    c.seek.new.self c.args.number c.seek.ensures.before c.seek.ensures.here c.if-self-runs.false in
    let at = f.skipped in omega (arith, c.requires.size)

pub overflow_add-first : goal.overflow_add-first
overflow_add-first c =
    let text = c.args.text.now in
    let f =
    found text (c.clusters_join.ensures.joined text c.utf8.text) (c.clusters_join.ensures.utf8 text c.utf8.text) c.args.tables.now c.args.runs.now c.requires.runs
    c.seek.new.self c.args.number c.seek.ensures.before c.seek.ensures.here c.if-self-runs.false in
    let at = f.end in omega (arith, c.requires.size)

pub overflow_add-first-2 : goal.overflow_add-first-2
overflow_add-first-2 c =
    let text = c.args.text.now in
    let f =
    found text (c.clusters_join.ensures.joined text c.utf8.text) (c.clusters_join.ensures.utf8 text c.utf8.text) c.args.tables.now c.args.runs.now c.requires.runs
    c.seek.new.self c.args.number c.seek.ensures.before c.seek.ensures.here c.if-self-runs.false in
    let at = f.end in omega (arith, c.requires.size)

pub range-cluster-requires-clause-start_boundary : goal.range-cluster-requires-clause-start_boundary
range-cluster-requires-clause-start_boundary c =
    let text = c.args.text.now in
    let f =
    found text (c.clusters_join.ensures.joined text c.utf8.text) (c.clusters_join.ensures.utf8 text c.utf8.text) c.args.tables.now c.args.runs.now c.requires.runs
    c.seek.new.self c.args.number c.seek.ensures.before c.seek.ensures.here c.if-self-runs.false in
    λ _. f.start_boundary

pub range-cluster-requires-clause-end_boundary : goal.range-cluster-requires-clause-end_boundary
range-cluster-requires-clause-end_boundary c =
    let text = c.args.text.now in
    let f =
    found text (c.clusters_join.ensures.joined text c.utf8.text) (c.clusters_join.ensures.utf8 text c.utf8.text) c.args.tables.now c.args.runs.now c.requires.runs
    c.seek.new.self c.args.number c.seek.ensures.before c.seek.ensures.here c.if-self-runs.false in
    f.end_boundary

pub returns-clause-read : goal.returns-clause-read
returns-clause-read c =
    let text = c.args.text.now in
    let f =
    found text (c.clusters_join.ensures.joined text c.utf8.text) (c.clusters_join.ensures.utf8 text c.utf8.text) c.args.tables.now c.args.runs.now c.requires.runs
    c.seek.new.self c.args.number c.seek.ensures.before c.seek.ensures.here c.if-self-runs.false in
    f.read c.range-cluster.result.now _ c.range-cluster.ensures.value refl c.is_space.ensures
