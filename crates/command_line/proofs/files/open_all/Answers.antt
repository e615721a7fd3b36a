-- One more file was opened.
use Rattle.std.proofs.Common.{List, ℕ, Bor}
use Rattle.op_codec.specs.declared.input.In.{In}
use Rattle.command_line.proofs.FilesOpened.{next_opened}
use Rattle.command_line.proofs.files.open_all.Goals as goal

pub loop-path-preserved : goal.loop-path-preserved
loop-path-preserved g c =
    let next = next_opened (λ (path : Bor (List ℕ)). g.O.Opener.gives c.args.rt.now path.now) (λ (file : In g.row.O-File.Denot). g.O.File.Read.remaining file.reader) (λ (file : In g.row.O-File.Denot). file.failed)
    c.args.paths.now c.loop-path.files.items c.push.new.self.items c.loop-path.path-index _ c.new.result _
    c.in_ok-push.ensures.items c.loop-path-test.true c.in_ok-open.ensures c.new.ensures.remaining c.new.ensures.working
    c.loop-path.invariant.count c.loop-path.invariant.opened c.loop-path.invariant.working in
    record { count = next.count; opened = next.opened; working = next.working }
