-- As many bytes as its slice of the text, or one entry after the other.
use Rattle.std.proofs.Common.{◌<◌, ◌≤◌, length, flat_map, ap, ◌∙◌, arith}
use Rattle.paragraphs.specs.declared.span.Span.{Span}
use Rattle.cell_grid.specs.Print.{own_text}
use Rattle.cell_grid.specs.Runs.{cluster_count, run_entries}
use Rattle.cell_grid.proofs.RunEntries.{length-run_entries}
use Rattle.cell_grid.proofs.RunPrinting.{run-order, entry-within, entry-read, entry-slice}
use Rattle.cell_grid.proofs.Sizes.{pieces-size, slices-size}
use Rattle.cell_grid.proofs.Steps.{take-whole}
use Rattle.cell_grid.proofs.print_size.run_size.Goals as goal

pub cluster-last-requires : goal.cluster-last-requires
cluster-last-requires c = record { within = omega arith; reach = c.requires.reach }

pub overflow_sub-result : goal.overflow_sub-result
overflow_sub-result c =
    let order = run-order c.args.text.now c.args.run.now c.requires in
    let first = ap (λ (s : Span). s.first_byte) c.read-first.ensures in
    let last = ap (λ (s : Span). s.end_byte) c.cluster-last.ensures in
    omega arith

pub returns-then-prints_its_clusters : goal.returns-then-prints_its_clusters
returns-then-prints_its_clusters c =
    let size = slices-size c.args.text.now c.args.run.now c.requires in
    let own = ap length (c.prints_its_clusters.ensures c.if-prints_its_clusters.true) in
    let first = ap (λ (s : Span). s.first_byte) c.read-first.ensures in
    let last = ap (λ (s : Span). s.end_byte) c.cluster-last.ensures in
    omega arith

pub overflow_cast-number : goal.overflow_cast-number
overflow_cast-number c = let most = c.count-number-end.ensures.most in record { fits = omega arith }

pub entry-requires : goal.entry-requires
entry-requires c =
    let count = c.count-number-end.ensures.number in
    let fits = c.requires.columns in
    record { within = omega arith; reach = c.requires.reach; fits = omega arith }

pub cells_size-size-requires : goal.cells_size-size-requires
cells_size-size-requires c =
    let count = c.count-number-end.ensures.number in
    entry-slice c.args.text.now c.args.run.now c.requires c.loop-number.number c.entry.result (omega arith) c.entry.ensures

pub overflow_add-size : goal.overflow_add-size
overflow_add-size c =
    let count = c.count-number-end.ensures.most in
    omega (arith, count, c.loop-number.invariant.most, c.cells_size-size.ensures.most)

pub loop-number-preserved : goal.loop-number-preserved
loop-number-preserved c =
    let text = c.args.text.now in
    let r = c.args.run.now in
    let n = c.loop-number.number in
    let e = c.entry.result in
    let count = c.count-number-end.ensures.number in
    let lt : n < cluster_count r = omega arith in
    let more = pieces-size (own_text c.args.tables.now text) (run_entries 0 r) n e e (entry-within text r n lt) (entry-read text r n e e lt c.entry.ensures) in
    let own = c.cells_size-size.ensures in
    record {
      counted = omega (arith, own.size, c.loop-number.invariant.counted, more);
      most = omega (arith, own.most, c.loop-number.invariant.most);
    }

pub returns : goal.returns
returns c =
    let r = c.args.run.now in
    let count = c.count-number-end.ensures.number in
    let len = length-run_entries 0 r in
    let all : length (run_entries 0 r) ≤ c.loop-number.number = omega arith in
    c.loop-number.invariant.counted ∙ ap (λ l. length (flat_map (own_text c.args.tables.now c.args.text.now) l)) (take-whole (run_entries 0 r) c.loop-number.number all)
