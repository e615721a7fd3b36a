-- The goals of `read_behind_frame` that are answered by hand.
use Rattle.std.proofs.Common.{List, Some, ◌++◌, subst}
use Rattle.bg_types.specs.declared.op.OpView.{OpView}
use Rattle.op_codec.specs.Spelling.{spelling_in}
use Rattle.op_codec.specs.Feed.{AreTaken, added}
use Rattle.op_codec.proofs.Feeds.{frame_left, frame_goes_on, taken_well, taken_behind, grown_twice, if_none, if_some}
use Rattle.op_codec.proofs.Streams.{joined-same, joined-twice, taken_after}
use Rattle.op_codec.proofs.stream.read_behind_frame.Goals as goal

pub returns-in_default-clause-taken : goal.returns-in_default-clause-taken
returns-in_default-clause-taken c =
    λ before ok is. (let stays = c.in_ok-rest.ensures in
    let unchanged = if_none c.in_ok-rest.field-0 _ c.in_default.is stays.unchanged in
    let ops = c.args.ops.now.items in
    let new = c.complete_frame.new.ops.items in
    frame_left c.args.at.now c.complete_frame.new.at before (before ++ added ops new) c.args.kept.now.items c.args.piece.now c.complete_frame.new.kept.items ok is (if_none c.in_ok-rest.field-0 _ c.in_default.is stays.none)
    (joined-same before ops new unchanged.0, unchanged.1))

pub returns-clause-taken : goal.returns-clause-taken
returns-clause-taken c =
    λ before ok is. (let at = c.args.at.now in
    let next = c.complete_frame.new.at in
    let ops = c.args.ops.now.items in
    let pushed = c.complete_frame.new.ops.items in
    let grown = c.read_frames.new.ops.items in
    let mid = before ++ added ops pushed in
    let kept = c.read_frames.new.kept.items in
    let old = c.args.kept.now.items in
    let piece = c.args.piece.now in
    let rest = c.in-Some.rest.now in
    let took = taken_after at next before ops pushed (old ++ piece) rest (if_some c.in_ok-rest.field-0 _ c.in-Some.rest c.in-Some.is c.in_ok-rest.ensures.some) in
    let taken = c.in_ok-read_frames.ensures.taken mid (taken_well at next before mid (old ++ piece) rest took ok) (taken_behind at next before mid (old ++ piece) rest took is) in
    subst (λ (xs : List OpView). AreTaken ((spelling_in at.version before ++ old) ++ piece) (Some c.read_frames.new.at) xs kept) (joined-twice before ops pushed grown c.complete_frame.ensures.ops c.read_frames.ensures.ops)
    (frame_goes_on at next c.read_frames.new.at before mid (mid ++ added pushed grown) old piece rest kept is took taken))

pub returns-in_default-clause-ops : goal.returns-in_default-clause-ops
returns-in_default-clause-ops c = c.complete_frame.ensures.ops

pub returns-in_err-read_frames-clause-ops : goal.returns-in_err-read_frames-clause-ops
returns-in_err-read_frames-clause-ops c = grown_twice c.args.ops.now.items c.complete_frame.new.ops.items c.read_frames.new.ops.items c.complete_frame.ensures.ops c.read_frames.ensures.ops

pub returns-clause-ops : goal.returns-clause-ops
returns-clause-ops c = grown_twice c.args.ops.now.items c.complete_frame.new.ops.items c.read_frames.new.ops.items c.complete_frame.ensures.ops c.read_frames.ensures.ops
