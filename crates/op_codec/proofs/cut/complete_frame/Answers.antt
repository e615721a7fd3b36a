-- The goals of `complete_frame` that are answered by hand.
use Rattle.std.proofs.Common.{List, ℕ, sym, ap, subst, ◌∙◌, arith, take, length}
use Rattle.std.proofs.Math.Seq.{take-length, take-append_seam}
use Rattle.op_codec.specs.Spelling.{Frame}
use Rattle.op_codec.specs.Fault.{cause_at, characters_in}
use Rattle.op_codec.specs.Feed.{TakesFrame}
use Rattle.op_codec.proofs.Cuts.{frame_kept, frame_completed, frame_within}
use Rattle.op_codec.proofs.cut.complete_frame.Goals as goal

pub overflow_sub-result : goal.overflow_sub-result
overflow_sub-result c =
    let f : Frame = record { first = c.in-Ok.read.first; further = characters_in c.in-Ok.read.further.now } in
    let takes = subst (λ (s : List ℕ). TakesFrame c.args.at.now s f c.in-Ok.read.rest.now) c.deref.ensures.0 c.in-Ok.ensures.ok in
    frame_within c.args.at.now c.args.kept.now.items c.args.piece.now c.append.new.kept.items c.in-Ok.read.rest.now f c.min-taken.result (omega (arith, c.min-taken.ensures, c.len.ensures.value)) c.append.ensures takes c.requires.missing

pub returns-in_ok-push_frame-in-Ok-clause-some : goal.returns-in_ok-push_frame-in-Ok-clause-some
returns-in_ok-push_frame-in-Ok-clause-some c =
    let f : Frame = record { first = c.in-Ok.read.first; further = characters_in c.in-Ok.read.further.now } in
    let takes = subst (λ (s : List ℕ). TakesFrame c.args.at.now s f c.in-Ok.read.rest.now) c.deref.ensures.0 c.in-Ok.ensures.ok in
    record {
      f = f;
      takes = frame_completed c.args.at.now c.args.kept.now.items c.args.piece.now c.append.new.kept.items c.in-Ok.read.rest.now f c.min-taken.result (omega (arith, c.min-taken.ensures, c.len.ensures.value)) c.append.ensures takes
          c.requires.missing;
      next = c.in_ok-push_frame-in-Ok.ensures.next;
      ops = c.in_ok-push_frame-in-Ok.ensures.ops;
    }

pub returns-in-Err-clause-none : goal.returns-in-Err-clause-none
returns-in-Err-clause-none c =
    frame_kept c.args.at.now c.args.kept.now.items c.args.piece.now c.append.new.kept.items c.min-taken.result c.in-Err.field-0 (omega (arith, c.min-taken.ensures, c.len.ensures.value)) c.append.ensures
    (sym (ap (cause_at c.args.at.now.version c.args.at.now.tip) c.deref.ensures.0) ∙ c.in-Err.ensures.err)

pub returns-in-Err-clause-ops : goal.returns-in-Err-clause-ops
returns-in-Err-clause-ops c = take-length c.args.ops.now.items

pub returns-in-Err-clause-grown : goal.returns-in-Err-clause-grown
returns-in-Err-clause-grown c = ap (take (length c.args.kept.now.items)) c.append.ensures ∙ take-append_seam c.args.kept.now.items _

pub returns-in_err-push_frame-in-Ok-clause-grown : goal.returns-in_err-push_frame-in-Ok-clause-grown
returns-in_err-push_frame-in-Ok-clause-grown c = ap (take (length c.args.kept.now.items)) c.append.ensures ∙ take-append_seam c.args.kept.now.items _

pub returns-in_ok-push_frame-in-Ok-clause-grown : goal.returns-in_ok-push_frame-in-Ok-clause-grown
returns-in_ok-push_frame-in-Ok-clause-grown c = ap (take (length c.args.kept.now.items)) c.append.ensures ∙ take-append_seam c.args.kept.now.items _
