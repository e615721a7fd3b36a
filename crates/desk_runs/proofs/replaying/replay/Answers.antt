-- The goals of `replay` that are answered by hand.
use Rattle.std.proofs.Common.{Some, refl, inl, ap, ◌∙◌, arith}
use Rattle.std.specs.Prelude.{map as each}
use Rattle.std.specs.Option.{option_copied}
use Rattle.std.proofs.KnownBytes.{Keeps-refl}
use Rattle.std.proofs.lemmas.List.{length-map}
use Rattle.desk_files.specs.declared.run_fault.RunFault.TheVariants as run
use Rattle.desk_files.specs.Files.{bytes_of}
use Rattle.desk_runs.specs.ReplayOutcome.{given, IsReplayOutcome}
use Rattle.desk_files.proofs.Interface.{answer_handed, never_failed, over_memory, as_many}
use Rattle.desk_runs.proofs.replaying.replay.Goals as goal

pub returns-in_err-readers : goal.returns-in_err-readers
returns-in_err-readers g c =
    let old = g.S.Sink.written c.args.out.now in
    let failed = g.S.Sink.has_failed c.args.out.now in
    answer_handed (IsReplayOutcome (given c.args.ucd.now c.args.width c.args.base (bytes_of c.args.files.now) (option_copied c.args.schedule)) old old failed) c.from_residual.result run.Memory c.from_residual.ensures.1
    (inl (tt, (c.requires.working, Keeps-refl old)))

pub replay_from-requires-clause-readers : goal.replay_from-requires-clause-readers
replay_from-requires-clause-readers g c = never_failed c.deref_mut.result.now

pub replay_from-requires-clause-some : goal.replay_from-requires-clause-some
replay_from-requires-clause-some g c =
    let told = ap (each (λ m. Some m.bytes.now)) c.deref_mut.ensures.value ∙ c.in_ok-readers.ensures in
    let many = as_many _ (bytes_of c.args.files.now) c.deref_mut.result.now told (λ m. Some m.bytes.now) refl in
    let size = length-map c.args.files.now (λ file. file.items) in
    let some = c.requires.some in
    omega (arith, many, size, some)

pub replay_from-requires-clause-many : goal.replay_from-requires-clause-many
replay_from-requires-clause-many g c =
    let told = ap (each (λ m. Some m.bytes.now)) c.deref_mut.ensures.value ∙ c.in_ok-readers.ensures in
    let many = as_many _ (bytes_of c.args.files.now) c.deref_mut.result.now told (λ m. Some m.bytes.now) refl in
    let size = length-map c.args.files.now (λ file. file.items) in
    let most = c.requires.many in
    omega (arith, many, size, most)

pub returns : goal.returns
returns g c =
    over_memory _ (bytes_of c.args.files.now) c.replay_from.new.files (ap (each (λ m. Some m.bytes.now)) c.deref_mut.ensures.value ∙ c.in_ok-readers.ensures) _ _
    (λ files. IsReplayOutcome (given c.args.ucd.now c.args.width c.args.base files (option_copied c.args.schedule)) (g.S.Sink.written c.args.out.now) (g.S.Sink.written c.replay_from.new.out) (g.S.Sink.has_failed c.replay_from.new.out))
    c.replay_from.result c.replay_from.ensures.outcome
