-- The goals of `read_behind_header` that are answered by hand.
use Rattle.std.proofs.Common.{[], refl}
use Rattle.op_codec.specs.Feed.{added}
use Rattle.op_codec.proofs.Feeds.{header_stays, header_goes_on}
use Rattle.op_codec.proofs.Streams.{added-none}
use Rattle.op_codec.proofs.stream.read_behind_header.Goals as goal

pub returns-in_default-clause-taken : goal.returns-in_default-clause-taken
returns-in_default-clause-taken c =
    let ops = c.args.ops.now.items in
    header_stays (added ops ops) c.args.kept.now.items c.args.piece.now c.complete_header.new.kept.items (added-none ops) c.in_default.ensures.none

pub returns-clause-taken : goal.returns-clause-taken
returns-clause-taken c =
    header_goes_on c.in-Some.version c.read_frames.new.at [] (added c.args.ops.now.items c.read_frames.new.ops.items) c.args.kept.now.items c.args.piece.now c.in-Some.rest.now c.read_frames.new.kept.items refl
    c.in-Some.ensures.some (c.in_ok-read_frames.ensures.taken [] tt (record { frames = refl; tip = refl }))
