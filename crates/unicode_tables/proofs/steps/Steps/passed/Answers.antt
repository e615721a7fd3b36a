-- A step over one more character.
use Rattle.std.proofs.Common.{◌<◌, length, get_or, ap, arith}
use Rattle.unicode_tables.proofs.Stepping.{passed-none, passed-on}
use Rattle.unicode_tables.proofs.steps.Steps.passed.Goals as goal

pub loop-end-init : goal.loop-end-init
loop-end-init c = passed-none c.args.text.now c.args.self.now.steps c.utf8.text

pub loop-end-preserved : goal.loop-end-preserved
loop-end-preserved c =
    let text = c.args.text.now in
    let steps = c.args.self.now.steps in
    let end = c.loop-end.end in
    let value = c.as_bytes-bytes.ensures.value in
    let len = ap length value in
    let lt : end < length text = omega (arith, c.loop-end-test.true) in
    let step = get_or steps (get_or c.as_bytes-bytes.result.now end 0) 0 in
    let some : 0 < step = omega (arith, c.if-step-eq0.false) in
    passed-on text steps end c.loop-end.count step c.utf8.text c.requires c.loop-end.invariant lt (ap (λ t. get_or steps (get_or t end 0) 0) value) some
