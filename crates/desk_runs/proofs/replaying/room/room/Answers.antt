-- The goals of `room` that are answered by hand.
use Rattle.std.proofs.Common.{◌≡◌, ◌+◌, ◌*◌, ◌-◌, ◌^◌, ℕ, List, length, get_or, max, min, ap, ◌∙◌, arith}
use Rattle.std.specs.Prelude.{sum_by}
use Rattle.std.specs.Global.{Vec}
use Rattle.std.proofs.lemmas.List.{take_all}
use Rattle.std.proofs.lemmas.List.Sums.{sum_by_more}
use Rattle.bg_types.specs.declared.op.OpView.{OpView}
use Rattle.desk_runs.specs.Room.{separators}
use Rattle.desk_runs.proofs.Rooms.{stopped_product}
use Rattle.desk_runs.proofs.replaying.room.room.Goals as goal

pub loop-ops-preserved : goal.loop-ops-preserved
loop-ops-preserved c =
    let tables = c.args.setting.now.tables.now in
    let files = c.args.setting.now.files.now in
    let ops = c.ops-item.result in
    let counted : c.separators.result ≡ separators tables (get_or files c.loop-ops.ops-index ops).items =
    c.separators.ensures ∙ ap (separators tables) c.deref.ensures.value ∙ ap (λ (file : Vec OpView). separators tables file.items) c.ops-item.is in
    let more = sum_by_more (λ (file : Vec OpView). separators tables file.items) files c.loop-ops.ops-index ops c.loop-ops-test.true in
    let before = c.loop-ops.invariant in
    let now = c.saturating_add-most.ensures in
    omega (arith, counted, more, before, now)

pub returns : goal.returns
returns c =
    let tables = c.args.setting.now.tables.now in
    let files = c.args.setting.now.files.now in
    let all = take_all c.loop-ops.ops-index files c.loop-ops-test.false in
    let most : ℕ = 1 + sum_by (λ (file : Vec OpView). separators tables file.items) files in
    let stopped : c.loop-ops.most ≡ min most (2 ^ 64 - 1) = c.loop-ops.invariant ∙ ap (λ (l : List (Vec OpView)). min (1 + sum_by (λ (file : Vec OpView). separators tables file.items) l) (2 ^ 64 - 1)) all in
    c.clamp.ensures
    ∙ ap (λ n. max 1 (min n 1_000_000)) c.saturating_mul.ensures
    ∙ ap (λ n. max 1 (min (min (n * length files) (2 ^ 64 - 1)) 1_000_000)) stopped
    ∙ stopped_product most (length files)
