-- The goals of `feed_piece` that are answered by hand.
use Rattle.std.proofs.Common.{◌≡◌, ◌⊎◌, ◌++◌, length, take, inr, sym, subst, arith}
use Rattle.std.proofs.lemmas.List.{length-take}
use Rattle.op_codec.specs.Feed.{StandsAfter, added}
use Rattle.desk_files.specs.declared.run_fault.RunFault.TheVariants.{Memory}
use Rattle.desk_files.specs.Reading.{IsFlawedBy}
use Rattle.desk_files.specs.declared.run_fault.RunFault.{RunFault}
use Rattle.desk_files.proofs.Feeding.{few_less, piece_faulty, piece_too_long, piece_fed, piece_sound}
use Rattle.desk_files.proofs.reading.feed_piece.Goals as goal

pub feed-requires : goal.feed-requires
feed-requires c =
    let size = length-take c.min-taken.result c.args.piece.now in
    record { few = few_less c.args.stream.now.position (length (take c.min-taken.result c.args.piece.now)) (length c.args.piece.now) (omega (arith, size)) c.requires.few }

pub returns-in-Err-clause-fault : goal.returns-in-Err-clause-fault
returns-in-Err-clause-fault c =
    λ bytes before stands so. (let goes = c.in-Err.ensures.outcome bytes before stands in
    subst (λ (f : RunFault). (f ≡ Memory) ⊎ IsFlawedBy (bytes ++ c.args.piece.now) c.args.number f) (sym c.file_fault.ensures)
    (piece_faulty c.fed_in_pieces.ensures.faulty c.stable_faults.ensures bytes c.args.piece.now goes.fed c.args.left c.min-taken.result c.args.number so.sum c.min-taken.ensures c.in-Err.fault goes.outcome))

pub returns-then-taken-piece-clause-fault : goal.returns-then-taken-piece-clause-fault
returns-then-taken-piece-clause-fault c =
    λ bytes before stands so. (let goes = c.in_default.ensures.outcome bytes before stands in
    inr (piece_too_long c.fed_in_pieces.ensures.faulty c.stable_faults.ensures bytes c.args.piece.now goes.fed c.args.left c.min-taken.result c.args.number so.sum c.min-taken.ensures goes.outcome c.if-taken-piece.true))

pub returns-clause-fed : goal.returns-clause-fed
returns-clause-fed c =
    λ bytes before stands so. (let goes = c.in_default.ensures.outcome bytes before stands in
    let fed = piece_fed c.fed_in_pieces.ensures.faulty c.stable_faults.ensures bytes c.args.piece.now goes.fed c.args.left c.min-taken.result c.args.number so.sum c.min-taken.ensures goes.outcome c.if-taken-piece.false in
    subst (λ b. StandsAfter c.feed.new.self b (before ++ added c.args.ops.now.items c.feed.new.ops.items)) fed goes.stands)

pub returns-clause-sound : goal.returns-clause-sound
returns-clause-sound c =
    λ bytes before stands so. (let goes = c.in_default.ensures.outcome bytes before stands in
    piece_sound c.fed_in_pieces.ensures.faulty c.stable_faults.ensures bytes c.args.piece.now goes.fed c.args.left c.min-taken.result c.args.number so.sum c.min-taken.ensures goes.outcome c.if-taken-piece.false)
