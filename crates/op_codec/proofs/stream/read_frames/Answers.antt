-- The goals of `read_frames` that are answered by hand.
use Rattle.std.proofs.Common.{◌++◌, arith}
use Rattle.op_codec.specs.Spelling.{Frame}
use Rattle.op_codec.specs.Fault.{characters_in}
use Rattle.op_codec.specs.Feed.{TakesIn, added}
use Rattle.op_codec.proofs.Feeds.{grown_twice, frames_taken}
use Rattle.op_codec.proofs.Streams.{moves_more, frame_shortens}
use Rattle.op_codec.proofs.stream.read_frames.Goals as goal

pub loop-read-preserved : goal.loop-read-preserved
loop-read-preserved c =
    let l = c.loop-read in
    let ops = c.push_frame.new.ops.items in
    let next = c.push_frame.new.at in
    let rest = c.in-Ok.read.rest.now in
    let pushed = c.in_ok-push_frame.ensures in
    let f : Frame = record { first = c.in-Ok.read.first; further = characters_in c.in-Ok.read.further.now } in
    let took : TakesIn l.at next l.ops.items ops l.rest.now rest = record { f = f; takes = c.in-Ok.ensures.ok; next = pushed.next; ops = pushed.ops } in
    let shorter = frame_shortens l.at l.rest.now rest f c.in-Ok.ensures.ok in
    let count = pushed.next.frames in
    let few = l.invariant.few in
    record {
      moved = λ before ok is. moves_more c.args.at.now l.at next before c.args.ops.now.items l.ops.items ops c.args.bytes.now l.rest.now rest l.invariant.grown took (l.invariant.moved before ok is);
      few = omega (arith, shorter, count, few);
      grown = grown_twice c.args.ops.now.items l.ops.items ops l.invariant.grown pushed.grown;
    }

pub push_frame-requires : goal.push_frame-requires
push_frame-requires c =
    let l = c.loop-read in
    let f : Frame = record { first = c.in-Ok.read.first; further = characters_in c.in-Ok.read.further.now } in
    let shorter = frame_shortens l.at l.rest.now c.in-Ok.read.rest.now f c.in-Ok.ensures.ok in
    record { is_frame = c.in-Ok.ensures.ok.begins.is_frame; counted = omega (arith, shorter, l.invariant.few, c.requires.few) }

pub loop-read-smaller : goal.loop-read-smaller
loop-read-smaller c =
    let f : Frame = record { first = c.in-Ok.read.first; further = characters_in c.in-Ok.read.further.now } in
    let shorter = frame_shortens c.loop-read.at c.loop-read.rest.now c.in-Ok.read.rest.now f c.in-Ok.ensures.ok in
    omega (arith, shorter)

pub returns-clause-taken : goal.returns-clause-taken
returns-clause-taken c =
    λ before ok is. (let l = c.loop-read in
    let read = l.invariant.moved before ok is in
    frames_taken c.args.at.now.version l.at before (before ++ added c.args.ops.now.items l.ops.items) c.args.bytes.now l.rest.now c.keep.new.kept.items read.version read.well_formed read.behind read.read c.keep.ensures)
