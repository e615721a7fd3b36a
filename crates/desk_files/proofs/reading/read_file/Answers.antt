-- The goals of `read_file` that are answered by hand.
use Rattle.std.proofs.Common.{◌≡◌, ◌+◌, ◌-◌, ◌++◌, ℕ, List, length, take, ap, subst, arith}
use Rattle.std.proofs.lemmas.List.{length-take}
use Rattle.bg_types.specs.declared.op.OpView.{OpView}
use Rattle.op_codec.specs.Feed.{StandsAfter}
use Rattle.desk_files.specs.Readers.{IsUnreadFile}
use Rattle.desk_files.proofs.Feeding.{added_all, end_few, read_few, end_within, read_more, read_told, read_flawed, read_stopped, read_lost, read_asked, lost_asked}
use Rattle.desk_files.proofs.HandedOn.{err_handed}
use Rattle.desk_files.proofs.reading.read_file.Goals as goal

pub returns-in_err-finish-clause-fault : goal.returns-in_err-finish-clause-fault
returns-in_err-finish-clause-fault g c =
    let l = c.loop-given in
    let start = g.R.Source.remaining c.args.reader.now in
    let now = g.R.Source.remaining l.reader in
    let read = l.invariant.read in
    let ops = l.ops.items in
    let nothing = ap (λ (n : ℕ). take n c.get.new.piece) c.if-given-eq0.true in
    let failed = g.R.Source.has_failed c.get.new.self in
    let fault = c.in_err-finish.field-0.0 in
    err_handed (IsUnreadFile c.args.number start (g.R.Source.remaining c.get.new.self) failed) c.from_residual.result fault c.from_residual.ensures.1
    (read_flawed start now l.stream l.left ops read (g.R.Source.remaining c.get.new.self) (take c.in-Some.given c.get.new.piece) nothing c.in-Some.ensures.given (c.in-Some.ensures.end c.if-given-eq0.true) c.args.number failed fault
    c.in-Some.ensures.failed (c.in_err-finish.ensures.fault read.bytes ops read.stands (end_within start now l.stream l.left ops read)))

pub returns-then-given-eq0-clause-ok : goal.returns-then-given-eq0-clause-ok
returns-then-given-eq0-clause-ok g c =
    let l = c.loop-given in
    let start = g.R.Source.remaining c.args.reader.now in
    let now = g.R.Source.remaining l.reader in
    let read = l.invariant.read in
    let ops = l.ops.items in
    let nothing = ap (λ (n : ℕ). take n c.get.new.piece) c.if-given-eq0.true in
    read_told start now l.stream l.left ops read (g.R.Source.remaining c.get.new.self) (take c.in-Some.given c.get.new.piece) nothing c.in-Some.ensures.given (c.in-Some.ensures.end c.if-given-eq0.true)
    (c.in_ok-finish.ensures.ok read.bytes ops read.stands (end_within start now l.stream l.left ops read))

pub returns-in_err-feed_piece-clause-fault : goal.returns-in_err-feed_piece-clause-fault
returns-in_err-feed_piece-clause-fault g c =
    let l = c.loop-given in
    let start = g.R.Source.remaining c.args.reader.now in
    let read = l.invariant.read in
    let failed = g.R.Source.has_failed c.get.new.self in
    let fault = c.in_err-feed_piece.field-0.0 in
    err_handed (IsUnreadFile c.args.number start (g.R.Source.remaining c.get.new.self) failed) c.from_residual-in_err-feed_piece.result fault c.from_residual-in_err-feed_piece.ensures.1
    (read_stopped start (g.R.Source.remaining l.reader) l.stream l.left l.ops.items read (g.R.Source.remaining c.get.new.self) (take c.in-Some.given c.get.new.piece) c.args.number failed fault c.in-Some.ensures.failed c.in-Some.ensures.given
    (c.in_err-feed_piece.ensures.fault read.bytes l.ops.items read.stands read.so))

pub loop-given-preserved : goal.loop-given-preserved
loop-given-preserved g c =
    let l = c.loop-given in
    let start = g.R.Source.remaining c.args.reader.now in
    let read = l.invariant.read in
    let piece = take c.in-Some.given c.get.new.piece in
    let fed = c.in_ok-feed_piece.ensures in
    let size = length-take c.in-Some.given c.get.new.piece in
    let within = c.in-Some.ensures.within in
    let room = fed.within in
    let part : (l.left - c.in-Some.given) + length piece ≡ l.left = omega (arith, size, within, room) in
    let stands = subst (λ (xs : List OpView). StandsAfter c.feed_piece.new.stream (read.bytes ++ piece) xs) (added_all l.ops.items c.feed_piece.new.ops.items fed.grown) (fed.fed read.bytes l.ops.items read.stands read.so) in
    record {
      read = read_more start (g.R.Source.remaining l.reader) l.stream l.left l.ops.items read (g.R.Source.remaining c.get.new.self) c.feed_piece.new.stream piece (l.left - c.in-Some.given) c.feed_piece.new.ops.items c.in-Some.ensures.given part
          stands (fed.sound read.bytes l.ops.items read.stands read.so);
      working = c.in-Some.ensures.failed;
    }

pub finish-requires : goal.finish-requires
finish-requires g c =
    let l = c.loop-given in
    record { few = end_few (g.R.Source.remaining c.args.reader.now) (g.R.Source.remaining l.reader) l.stream l.left l.ops.items l.invariant.read }

pub feed_piece-requires : goal.feed_piece-requires
feed_piece-requires g c =
    let l = c.loop-given in
    let size = length-take c.in-Some.given c.get.new.piece in
    record { few = read_few (g.R.Source.remaining c.args.reader.now) (g.R.Source.remaining l.reader) l.stream l.left l.ops.items l.invariant.read (length (take c.in-Some.given c.get.new.piece)) (omega (arith, size)) }

pub returns-clause-fault : goal.returns-clause-fault
returns-clause-fault g c =
    let l = c.loop-given in
    read_lost (g.R.Source.remaining c.args.reader.now) (g.R.Source.remaining l.reader) l.stream l.left l.ops.items l.invariant.read (g.R.Source.remaining c.get.new.self) c.args.number _ c.in_default.ensures.failed c.in_default.ensures.lost

pub returns-clause-asked : goal.returns-clause-asked
returns-clause-asked g c =
    let l = c.loop-given in
    lost_asked (g.R.Source.remaining c.args.reader.now) (g.R.Source.remaining l.reader) l.stream l.left l.ops.items l.invariant.read (g.R.Source.remaining c.get.new.self) c.in_default.ensures.lost

pub returns-in_err-finish-clause-asked : goal.returns-in_err-finish-clause-asked
returns-in_err-finish-clause-asked g c =
    let l = c.loop-given in
    let size = length-take c.in-Some.given c.get.new.piece in
    read_asked (g.R.Source.remaining c.args.reader.now) (g.R.Source.remaining l.reader) l.stream l.left l.ops.items l.invariant.read (g.R.Source.remaining c.get.new.self) (take c.in-Some.given c.get.new.piece) c.in-Some.ensures.given (omega (arith, size))

pub returns-in_err-feed_piece-clause-asked : goal.returns-in_err-feed_piece-clause-asked
returns-in_err-feed_piece-clause-asked g c =
    let l = c.loop-given in
    let size = length-take c.in-Some.given c.get.new.piece in
    read_asked (g.R.Source.remaining c.args.reader.now) (g.R.Source.remaining l.reader) l.stream l.left l.ops.items l.invariant.read (g.R.Source.remaining c.get.new.self) (take c.in-Some.given c.get.new.piece) c.in-Some.ensures.given (omega (arith, size))

pub returns-then-given-eq0-clause-asked : goal.returns-then-given-eq0-clause-asked
returns-then-given-eq0-clause-asked g c =
    let l = c.loop-given in
    let size = length-take c.in-Some.given c.get.new.piece in
    read_asked (g.R.Source.remaining c.args.reader.now) (g.R.Source.remaining l.reader) l.stream l.left l.ops.items l.invariant.read (g.R.Source.remaining c.get.new.self) (take c.in-Some.given c.get.new.piece) c.in-Some.ensures.given (omega (arith, size))
