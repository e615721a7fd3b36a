-- The goals of `read_whole` that are answered by hand.
use Rattle.std.proofs.Common.{◌≡◌, Option, Some, ltb, sym, ◌∙◌, subst}
use Rattle.std.specs.Prelude.{IfErr, if◌then◌else◌}
use Rattle.std.proofs.lemmas.Bool.{lt-ltb}
use Rattle.op_codec.specs.declared.fault.Cause.{Cause}
use Rattle.op_codec.specs.declared.fault.Cause.TheVariants.{UnknownKind}
use Rattle.op_codec.specs.Fault.{run_frame_cause}
use Rattle.op_codec.proofs.Causes.{by_kind}
use Rattle.op_codec.proofs.frame.read_whole.Goals as goal

pub returns-in-1-clause-err : goal.returns-in-1-clause-err
returns-in-1-clause-err c =
    subst (λ (shown : Option Cause). IfErr c.read_insertion_frame.result (λ cause. shown ≡ Some cause)) (sym (by_kind c.args.version c.args.bytes.now 1 c.if-bytes-lt3.false c.in-1.is)) c.read_insertion_frame.ensures.err

pub returns-in-2-clause-err : goal.returns-in-2-clause-err
returns-in-2-clause-err c =
    subst (λ (shown : Option Cause). IfErr c.read_erasure_frame.result (λ cause. shown ≡ Some cause)) (sym (by_kind c.args.version c.args.bytes.now 2 c.if-bytes-lt3.false c.in-2.is)) c.read_erasure_frame.ensures.err

pub returns-in-3-clause-err : goal.returns-in-3-clause-err
returns-in-3-clause-err c =
    let many = lt-ltb _ _ c.if-most_insertions-gt1.true in
    let run = (λ i. if ltb 1 (sym c.most_insertions.ensures i) then run_frame_cause c.args.bytes.now else Some UnknownKind) ∙ (λ i. if many i then run_frame_cause c.args.bytes.now else Some UnknownKind) in
    subst (λ (shown : Option Cause). IfErr c.read_run_frame.result (λ cause. shown ≡ Some cause)) (sym (by_kind c.args.version c.args.bytes.now 3 c.if-bytes-lt3.false c.in-3.is ∙ run)) c.read_run_frame.ensures.err
