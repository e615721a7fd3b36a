-- The stretches of the pieces so far.
use Rattle.std.proofs.Common.{◌≡◌, ◌-◌, length, map}
use Rattle.cell_grid.specs.declared.stretch.Stretch.{Stretch}
use Rattle.cell_grid.proofs.Stretches.{AreSoFar}
use Rattle.cell_grid.proofs.stretch.Order.find.Given as goal

abbrev pub decreases-loop-first : goal.decreases-loop-first
decreases-loop-first l = length l.pieces - l.first

abbrev pub invariant-loop-first : goal.invariant-loop-first
invariant-loop-first l = record {
  far : AreSoFar l.pieces l.first l.self.stretches.items;
  levels : l.self.levels.items ≡ map (λ (s : Stretch). s.level) l.self.stretches.items;
}
