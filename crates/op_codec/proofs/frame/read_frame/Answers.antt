-- The goals of `read_frame` that are answered by hand.
use Rattle.std.proofs.Common.{sym, ap, ◌∙◌}
use Rattle.op_codec.specs.Fault.{cause_at}
use Rattle.op_codec.proofs.Faultless.{cause_at-joined}
use Rattle.op_codec.proofs.frame.read_frame.Goals as goal

pub returns-then-joins-clause-err : goal.returns-then-joins-clause-err
returns-then-joins-clause-err c =
    let read = c.in-Ok.ensures.ok in
    let at = c.args.at.now in
    ap (cause_at at.version at.tip) read.spelled ∙ cause_at-joined at.version at.tip _ c.in-Ok.read.rest.now read.is_frame (sym c.joins.ensures ∙ c.if-joins.true)
