-- Each run leads further.
use Rattle.std.proofs.Common.{Err, ◌+◌, length, take, ap, arith}
use Rattle.std.proofs.lemmas.List.{length-drop, take_rest}
use Rattle.text_buffer.specs.Buffers.{bytes_in, text_in}
use Rattle.text_buffer.specs.Edits.{all_changed}
use Rattle.text_buffer.proofs.Runs.{way-begun, way-text, way-on}
use Rattle.text_buffer.proofs.buffer.Buffer.apply_all.Goals as goal

pub loop-made-init : goal.loop-made-init
loop-made-init g c = way-begun c.args.tables.now c.args.self.now c.args.changes.now c.requires.split c.requires.places

pub loop-made-preserved : goal.loop-made-preserved
loop-made-preserved g c =
    let e = c.in-Ok.ensures in
    way-on c.args.tables.now c.args.self.now c.args.changes.now c.loop-made.self c.apply_run.new.self c.loop-made.made c.in-Ok.count _ (take_rest c.args.changes.now c.loop-made.made) c.loop-made.invariant
    e.within e.text e.places e.split e.touched

pub returns-in-Err-clause-too_long : goal.returns-in-Err-clause-too_long
returns-in-Err-clause-too_long g c = λ long.
    let changes = c.args.changes.now in
    let made = c.loop-made.made in
    let more = c.in-Err.ensures.too_long (ap Err long) in
    let n = more.0 in
    let left = take_rest changes made in
    let text = way-text c.args.tables.now c.args.self.now changes c.loop-made.self made n c.loop-made.invariant in (
      made + n,
      omega (arith, more.1),
      omega (arith, more.2, ap length left, length-drop made changes, c.loop-made-test.true),
      omega (arith, more.3, ap (λ t. bytes_in (all_changed (text_in c.loop-made.self) (take n t))) left, ap bytes_in text),
    )
