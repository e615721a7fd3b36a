-- The goals of `carets` that are answered by hand.
use Rattle.std.proofs.Common.{Some, inl, ap, ◌∙◌}
use Rattle.std.specs.Prelude.{map as each}
use Rattle.std.proofs.KnownBytes.{Keeps-refl}
use Rattle.desk_files.specs.declared.run_fault.RunFault.TheVariants as run
use Rattle.desk_files.specs.Files.{bytes_of}
use Rattle.desk_runs.specs.CaretsOutcome.{asked, IsCaretsOutcome}
use Rattle.desk_files.proofs.Interface.{answer_handed, never_failed, over_memory}
use Rattle.desk_runs.proofs.walking.carets.Goals as goal

pub returns-in_err-readers : goal.returns-in_err-readers
returns-in_err-readers g c =
    let old = g.S.Sink.written c.args.out.now in
    let failed = g.S.Sink.has_failed c.args.out.now in
    answer_handed (IsCaretsOutcome (asked c.args.ucd.now c.args.width c.args.base (bytes_of c.args.files.now) c.args.place c.args.moves.now) old old failed) c.from_residual.result run.Memory c.from_residual.ensures.1
    (inl (tt, (c.requires.working, Keeps-refl old)))

pub carets_from-requires-clause-readers : goal.carets_from-requires-clause-readers
carets_from-requires-clause-readers g c = never_failed c.deref_mut.result.now

pub returns : goal.returns
returns g c =
    over_memory _ (bytes_of c.args.files.now) c.carets_from.new.files (ap (each (λ m. Some m.bytes.now)) c.deref_mut.ensures.value ∙ c.in_ok-readers.ensures) _ _
    (λ files. IsCaretsOutcome (asked c.args.ucd.now c.args.width c.args.base files c.args.place c.args.moves.now) (g.S.Sink.written c.args.out.now) (g.S.Sink.written c.carets_from.new.out) (g.S.Sink.has_failed c.carets_from.new.out))
    c.carets_from.result c.carets_from.ensures.outcome
