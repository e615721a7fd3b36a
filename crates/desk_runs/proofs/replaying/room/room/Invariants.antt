-- The paragraphs that the files so far can make.
use Rattle.std.proofs.Common.{◌≡◌, ◌+◌, ◌-◌, ◌^◌, take, min}
use Rattle.std.specs.Prelude.{sum_by}
use Rattle.std.specs.Global.{Vec}
use Rattle.bg_types.specs.declared.op.OpView.{OpView}
use Rattle.desk_runs.specs.Room.{separators}
use Rattle.desk_runs.proofs.replaying.room.room.Given as goal

abbrev pub invariant-loop-ops : goal.invariant-loop-ops
invariant-loop-ops l = l.most ≡ min (1 + sum_by (λ (ops : Vec OpView). separators l.setting.tables.now ops.items) (take l.ops-index l.setting.files.now)) (2 ^ 64 - 1)
