-- The goals of `complete_header` that are answered by hand.
use Rattle.std.proofs.Common.{sym, ap, ◌∙◌, arith, take, length}
use Rattle.std.proofs.Math.Seq.{take-append_seam}
use Rattle.op_codec.specs.Fault.{header_cause}
use Rattle.op_codec.proofs.Cuts.{header_kept, header_completed, cut_header, header_read}
use Rattle.op_codec.proofs.cut.complete_header.Goals as goal

pub returns-in-Err-clause-none : goal.returns-in-Err-clause-none
returns-in-Err-clause-none c =
    header_kept c.args.kept.now.items c.args.piece.now c.append.new.kept.items c.min-taken.result c.in-Err.field-0 (omega (arith, c.min-taken.ensures, c.len.ensures.value)) c.append.ensures
    (sym (ap header_cause c.deref.ensures.0) ∙ c.in-Err.ensures.fault)

pub returns-in-Ok-clause-right : goal.returns-in-Ok-clause-right
returns-in-Ok-clause-right c =
    header_completed c.in-Ok.read.0 c.args.kept.now.items c.args.piece.now c.append.new.kept.items c.in-Ok.read.1.now c.min-taken.result c.append.ensures (sym c.deref.ensures.0 ∙ c.in-Ok.ensures.ok)

pub returns-in-Err-clause-grown : goal.returns-in-Err-clause-grown
returns-in-Err-clause-grown c = ap (take (length c.args.kept.now.items)) c.append.ensures ∙ take-append_seam c.args.kept.now.items _

pub returns-in-Ok-clause-grown : goal.returns-in-Ok-clause-grown
returns-in-Ok-clause-grown c = ap (take (length c.args.kept.now.items)) c.append.ensures ∙ take-append_seam c.args.kept.now.items _

pub overflow_sub-len : goal.overflow_sub-len
overflow_sub-len c = omega (arith, cut_header c.args.kept.now.items c.requires, c.len.ensures.value)

pub returns-in-Ok-clause-some : goal.returns-in-Ok-clause-some
returns-in-Ok-clause-some c =
    header_read c.in-Ok.read.0 c.args.kept.now.items c.args.piece.now c.append.new.kept.items c.in-Ok.read.1.now c.min-taken.result (omega (arith, c.min-taken.ensures, c.len.ensures.value)) c.requires c.append.ensures
    (sym c.deref.ensures.0 ∙ c.in-Ok.ensures.ok)
