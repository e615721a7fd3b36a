-- The goals of `read_run_frame` that are answered by hand.
use Rattle.std.proofs.Common.{sym, ◌∙◌, arith}
use Rattle.op_codec.proofs.Runs.{run_begins}
use Rattle.op_codec.proofs.frame.read_run_frame.Goals as goal

pub returns-clause-ok : goal.returns-clause-ok
returns-clause-ok c =
    let parts = c.in_ok-fields.ensures in
    let read = c.in_ok-first.ensures in
    run_begins c.args.bytes.now c.in_ok-fields.fields.now c.in_ok-fields.rest.now c.in_ok-first.first c.read_u16-size.result (λ i. omega (arith, c.type_inv.bytes i)) c.requires.long c.requires.kind
    parts.size (sym c.is_run_length.ensures ∙ c.if-not-is_run_length.false) parts.whole parts.fields parts.rest read.fields read.well_formed read.goes_on read.scalars
