-- The goals of `take_file` that are answered by hand.
use Rattle.std.proofs.Common.{◌≡◌, ◌+◌, ◌-◌, ◌++◌, ℕ, List, [], length, take, refl, sym, ap, subst, ◌∙◌, append_assoc, arith}
use Rattle.std.proofs.lemmas.List.{length-take}
use Rattle.bg_types.specs.declared.op.OpView.{OpView}
use Rattle.op_codec.specs.Feed.{added}
use Rattle.desk_files.specs.declared.run_fault.RunFault.TheVariants as run
use Rattle.desk_files.specs.Readers.{IsUnreadFile, lacks_memory}
use Rattle.desk_files.specs.Taking.{HasTaken, HasTakenBut}
use Rattle.desk_files.proofs.AnyOrder.{but-more}
use Rattle.desk_files.proofs.Feeding.{read_none, end_few, read_few, end_within, read_more, read_told, read_flawed, read_stopped, read_lost, read_asked, lost_asked}
use Rattle.desk_files.proofs.HandedOn.{err_handed}
use Rattle.desk_files.proofs.one_desk.take_file.Goals as goal

pub returns-in_err-feed_piece-clause-fault : goal.returns-in_err-feed_piece-clause-fault
returns-in_err-feed_piece-clause-fault g c =
    let l = c.loop-given in
    let start = g.R.Source.remaining c.args.reader.now in
    let ops = l.invariant.ops in
    let read = l.invariant.read in
    let failed = g.R.Source.has_failed c.get.new.self in
    let fault = c.in_err-feed_piece.field-0.0 in
    err_handed (IsUnreadFile c.args.number start (g.R.Source.remaining c.get.new.self) failed) c.from_residual-in_err-feed_piece.result fault c.from_residual-in_err-feed_piece.ensures.1
    (read_stopped start (g.R.Source.remaining l.reader) l.stream l.left ops read (g.R.Source.remaining c.get.new.self) (take c.in-Some.given c.get.new.piece) c.args.number failed fault c.in-Some.ensures.failed c.in-Some.ensures.given
    (c.in_err-feed_piece.ensures.fault read.bytes ops read.stands read.so))

pub returns-in_err-finish-clause-fault : goal.returns-in_err-finish-clause-fault
returns-in_err-finish-clause-fault g c =
    let l = c.loop-given in
    let start = g.R.Source.remaining c.args.reader.now in
    let now = g.R.Source.remaining l.reader in
    let ops = l.invariant.ops in
    let read = l.invariant.read in
    let failed = g.R.Source.has_failed c.get.new.self in
    let fault = c.in_err-finish.field-0.0 in
    let nothing = ap (λ (n : ℕ). take n c.get.new.piece) c.if-given-eq0.true in
    err_handed (IsUnreadFile c.args.number start (g.R.Source.remaining c.get.new.self) failed) c.from_residual.result fault c.from_residual.ensures.1
    (read_flawed start now l.stream l.left ops read (g.R.Source.remaining c.get.new.self) (take c.in-Some.given c.get.new.piece) nothing c.in-Some.ensures.given (c.in-Some.ensures.end c.if-given-eq0.true) c.args.number failed fault c.in-Some.ensures.failed
    (c.in_err-finish.ensures.fault read.bytes ops read.stands (end_within start now l.stream l.left ops read)))

pub returns-in_err-take_more-clause-fault : goal.returns-in_err-take_more-clause-fault
returns-in_err-take_more-clause-fault g c =
    let failed = g.R.Source.has_failed c.get.new.self in
    err_handed (IsUnreadFile c.args.number (g.R.Source.remaining c.args.reader.now) (g.R.Source.remaining c.get.new.self) failed) c.from_residual-in_err-take_more.result run.Memory c.from_residual-in_err-take_more.ensures.1 (lacks_memory refl c.in-Some.ensures.failed)

pub returns-in_err-take_unless_more_come-clause-fault : goal.returns-in_err-take_unless_more_come-clause-fault
returns-in_err-take_unless_more_come-clause-fault g c =
    let failed = g.R.Source.has_failed c.get.new.self in
    err_handed (IsUnreadFile c.args.number (g.R.Source.remaining c.args.reader.now) (g.R.Source.remaining c.get.new.self) failed) c.from_residual-in_err-take_unless_more_come.result run.Memory c.from_residual-in_err-take_unless_more_come.ensures.1 (lacks_memory refl c.in-Some.ensures.failed)

pub returns-then-given-eq0-clause-taken : goal.returns-then-given-eq0-clause-taken
returns-then-given-eq0-clause-taken g c =
    λ before h. (let l = c.loop-given in
    let start = g.R.Source.remaining c.args.reader.now in
    let now = g.R.Source.remaining l.reader in
    let ops = l.invariant.ops in
    let read = l.invariant.read in
    let nothing = ap (λ (n : ℕ). take n c.get.new.piece) c.if-given-eq0.true in
    let but = l.invariant.taken before h in (
      ops,
      read_told start now l.stream l.left ops read (g.R.Source.remaining c.get.new.self) (take c.in-Some.given c.get.new.piece) nothing c.in-Some.ensures.given (c.in-Some.ensures.end c.if-given-eq0.true)
          (c.in_ok-finish.ensures.ok read.bytes ops read.stands (end_within start now l.stream l.left ops read)),
      subst (λ (all : List OpView). HasTaken all c.take_more.new.desk.set c.take_more.new.refused) (ap (λ (w : List OpView). but.0 ++ w) c.deref_mut.ensures.value ∙ sym but.1) (c.in_ok-take_more.ensures.taken but.0 but.2),
    ))

pub loop-given-init : goal.loop-given-init
loop-given-init g c =
    record {
      ops = [];
      read = read_none (g.R.Source.remaining c.args.reader.now) c.new-stream.result c.new-stream.ensures;
      taken = λ before h. (before, ap (λ (l : List OpView). before ++ l) (sym c.new-waiting.ensures.items), h);
      site = refl;
      working = c.requires;
    }

pub loop-given-preserved : goal.loop-given-preserved
loop-given-preserved g c =
    let l = c.loop-given in
    let start = g.R.Source.remaining c.args.reader.now in
    let read = l.invariant.read in
    let waiting = l.waiting.items in
    let more = c.feed_piece.new.ops.items in
    let all = l.invariant.ops ++ added waiting more in
    let piece = take c.in-Some.given c.get.new.piece in
    let fed = c.in_ok-feed_piece.ensures in
    let size = length-take c.in-Some.given c.get.new.piece in
    let within = c.in-Some.ensures.within in
    let room = fed.within in
    let part : (l.left - c.in-Some.given) + length piece ≡ l.left = omega (arith, size, within, room) in
    record {
      ops = all;
      read = read_more start (g.R.Source.remaining l.reader) l.stream l.left l.invariant.ops read (g.R.Source.remaining c.get.new.self) c.feed_piece.new.stream piece (l.left - c.in-Some.given) all c.in-Some.ensures.given part (fed.fed read.bytes l.invariant.ops read.stands read.so)
          (fed.sound read.bytes l.invariant.ops read.stands read.so);
      taken = λ before h. c.in_ok-take_unless_more_come.ensures.taken (before ++ all)
          (subst (λ (ops : List OpView). HasTakenBut more ops l.desk.set l.refused) (append_assoc before l.invariant.ops (added waiting more)) (but-more waiting more (before ++ l.invariant.ops) l.desk.set l.refused fed.grown (l.invariant.taken before h)));
      site = c.in_ok-take_unless_more_come.ensures.site ∙ c.loop-given.invariant.site;
      working = c.in-Some.ensures.failed;
    }

pub finish-requires : goal.finish-requires
finish-requires g c =
    let l = c.loop-given in
    record { few = end_few (g.R.Source.remaining c.args.reader.now) (g.R.Source.remaining l.reader) l.stream l.left l.invariant.ops l.invariant.read }

pub feed_piece-requires : goal.feed_piece-requires
feed_piece-requires g c =
    let l = c.loop-given in
    let size = length-take c.in-Some.given c.get.new.piece in
    record { few = read_few (g.R.Source.remaining c.args.reader.now) (g.R.Source.remaining l.reader) l.stream l.left l.invariant.ops l.invariant.read (length (take c.in-Some.given c.get.new.piece)) (omega (arith, size)) }

pub returns-clause-fault : goal.returns-clause-fault
returns-clause-fault g c =
    let l = c.loop-given in
    read_lost (g.R.Source.remaining c.args.reader.now) (g.R.Source.remaining l.reader) l.stream l.left l.invariant.ops l.invariant.read (g.R.Source.remaining c.get.new.self) c.args.number _ c.in_default.ensures.failed c.in_default.ensures.lost

pub returns-clause-asked : goal.returns-clause-asked
returns-clause-asked g c =
    let l = c.loop-given in
    lost_asked (g.R.Source.remaining c.args.reader.now) (g.R.Source.remaining l.reader) l.stream l.left l.invariant.ops l.invariant.read (g.R.Source.remaining c.get.new.self) c.in_default.ensures.lost

pub returns-in_err-finish-clause-asked : goal.returns-in_err-finish-clause-asked
returns-in_err-finish-clause-asked g c =
    let l = c.loop-given in
    let size = length-take c.in-Some.given c.get.new.piece in
    read_asked (g.R.Source.remaining c.args.reader.now) (g.R.Source.remaining l.reader) l.stream l.left l.invariant.ops l.invariant.read (g.R.Source.remaining c.get.new.self) (take c.in-Some.given c.get.new.piece) c.in-Some.ensures.given (omega (arith, size))

pub returns-in_err-take_more-clause-asked : goal.returns-in_err-take_more-clause-asked
returns-in_err-take_more-clause-asked g c =
    let l = c.loop-given in
    let size = length-take c.in-Some.given c.get.new.piece in
    read_asked (g.R.Source.remaining c.args.reader.now) (g.R.Source.remaining l.reader) l.stream l.left l.invariant.ops l.invariant.read (g.R.Source.remaining c.get.new.self) (take c.in-Some.given c.get.new.piece) c.in-Some.ensures.given (omega (arith, size))

pub returns-in_err-feed_piece-clause-asked : goal.returns-in_err-feed_piece-clause-asked
returns-in_err-feed_piece-clause-asked g c =
    let l = c.loop-given in
    let size = length-take c.in-Some.given c.get.new.piece in
    read_asked (g.R.Source.remaining c.args.reader.now) (g.R.Source.remaining l.reader) l.stream l.left l.invariant.ops l.invariant.read (g.R.Source.remaining c.get.new.self) (take c.in-Some.given c.get.new.piece) c.in-Some.ensures.given (omega (arith, size))

pub returns-in_err-take_unless_more_come-clause-asked : goal.returns-in_err-take_unless_more_come-clause-asked
returns-in_err-take_unless_more_come-clause-asked g c =
    let l = c.loop-given in
    let size = length-take c.in-Some.given c.get.new.piece in
    read_asked (g.R.Source.remaining c.args.reader.now) (g.R.Source.remaining l.reader) l.stream l.left l.invariant.ops l.invariant.read (g.R.Source.remaining c.get.new.self) (take c.in-Some.given c.get.new.piece) c.in-Some.ensures.given (omega (arith, size))

pub returns-then-given-eq0-clause-asked : goal.returns-then-given-eq0-clause-asked
returns-then-given-eq0-clause-asked g c =
    let l = c.loop-given in
    let size = length-take c.in-Some.given c.get.new.piece in
    read_asked (g.R.Source.remaining c.args.reader.now) (g.R.Source.remaining l.reader) l.stream l.left l.invariant.ops l.invariant.read (g.R.Source.remaining c.get.new.self) (take c.in-Some.given c.get.new.piece) c.in-Some.ensures.given (omega (arith, size))
