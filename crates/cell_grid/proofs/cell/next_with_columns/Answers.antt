-- One entry after the other.
use Rattle.std.proofs.Common.{◌≡◌, ◌+◌, length, ap, arith}
use Rattle.cell_grid.specs.Cells.{entries_cells}
use Rattle.cell_grid.proofs.Coming.{passes, finds, finds-none}
use Rattle.cell_grid.proofs.cell.next_with_columns.Goals as goal

pub loop-entry-init : goal.loop-entry-init
loop-entry-init c = record {
  cells = λ number. let same : number ≡ number + 0 = omega arith in ap (λ k. entries_cells k c.args.entries.now) same;
  count = omega arith;
}

pub returns-then-entry-gt0 : goal.returns-then-entry-gt0
returns-then-entry-gt0 c =
    finds c.args.entries.now c.loop-entry.entries c.next.new.self c.in-Some.entry c.loop-entry.passed c.loop-entry.invariant.cells c.in-Some.ensures.steps
    (omega arith) c.loop-entry.invariant.count

pub loop-entry-preserved : goal.loop-entry-preserved
loop-entry-preserved c =
    let more = ap length c.in-Some.ensures.steps in
    let so_far = c.loop-entry.invariant.count in
    record {
      cells = passes c.args.entries.now c.loop-entry.entries c.next.new.self c.in-Some.entry c.loop-entry.passed c.loop-entry.invariant.cells c.in-Some.ensures.steps (omega arith);
      count = omega arith;
    }

pub returns : goal.returns
returns c =
    finds-none c.args.entries.now c.loop-entry.entries c.next.new.self c.loop-entry.passed c.loop-entry.invariant.cells c.in_default.ensures.steps.0 c.in_default.ensures.steps.1
