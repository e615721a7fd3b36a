-- The next run is there, and goes on where the one before it ended.
use Rattle.std.proofs.Common.{get_or, refl, rules}
use Rattle.line_break.specs.declared.run.ShapeRun.{ShapeRun}
use Rattle.cell_grid.proofs.Cutting.{next-there, passed-run, within-next}
use Rattle.cell_grid.proofs.part.Cursor.go_on.Goals as goal

abbrev none : ShapeRun
none = record { first_byte = 0; first_place = 0; count = 0; bytes = 0; points = 0; columns = 0 }

pub bounds-runs-self : goal.bounds-runs-self
bounds-runs-self c = next-there c.args.runs.now c.args.self.now.first c.args.self.now.next c.requires.more

pub offset_bounds-runs-self : goal.offset_bounds-runs-self
offset_bounds-runs-self c =
    let within = next-there c.args.runs.now c.args.self.now.first c.args.self.now.next c.requires.more in
    search rules

pub overflow_add-self : goal.overflow_add-self
overflow_add-self c =
    let within = next-there c.args.runs.now c.args.self.now.first c.args.self.now.next c.requires.more in
    search rules

pub returns-clause-first : goal.returns-clause-first
returns-clause-first c =
    c.requires.runs c.args.self.now.next none (next-there c.args.runs.now c.args.self.now.first c.args.self.now.next c.requires.more)

pub returns-clause-passed : goal.returns-clause-passed
returns-clause-passed c =
    passed-run c.args.runs.now c.args.self.now.first c.args.self.now.next (get_or c.args.runs.now c.args.self.now.next none) none
    (next-there c.args.runs.now c.args.self.now.first c.args.self.now.next c.requires.more) refl

pub returns-clause-within : goal.returns-clause-within
returns-clause-within c = λ h.
    within-next c.args.runs.now c.args.self.now.first c.args.self.now.next (get_or c.args.runs.now c.args.self.now.next none) none
    (next-there c.args.runs.now c.args.self.now.first c.args.self.now.next c.requires.more) refl h
