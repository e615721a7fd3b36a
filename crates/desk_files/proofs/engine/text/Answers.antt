-- The goals of `text` that are answered by hand.
use Rattle.std.proofs.Common.{Some, ap, ◌∙◌}
use Rattle.std.specs.Prelude.{map as each}
use Rattle.desk_files.specs.declared.run_fault.RunFault.TheVariants as run
use Rattle.desk_files.specs.Files.{bytes_of}
use Rattle.desk_files.specs.TextOutcome.{IsTextOutcome}
use Rattle.desk_files.proofs.Answered.{text_unwritten}
use Rattle.desk_files.proofs.HandedOn.{answer_handed}
use Rattle.desk_files.proofs.Readings.{never_failed, over_memory}
use Rattle.desk_files.proofs.engine.text.Goals as goal

pub returns-in_err-readers : goal.returns-in_err-readers
returns-in_err-readers g c =
    let files = bytes_of c.args.files.now in
    let old = g.S.Sink.written c.args.out.now in
    let failed = g.S.Sink.has_failed c.args.out.now in
    answer_handed (IsTextOutcome files old old failed) c.from_residual.result run.Memory c.from_residual.ensures.1 (text_unwritten files old failed run.Memory c.requires tt)

pub text_from-requires-clause-readers : goal.text_from-requires-clause-readers
text_from-requires-clause-readers g c = never_failed c.deref_mut.result.now

pub returns : goal.returns
returns g c =
    over_memory _ (bytes_of c.args.files.now) c.text_from.new.files (ap (each (λ m. Some m.bytes.now)) c.deref_mut.ensures.value ∙ c.in_ok-readers.ensures) _ _
    (λ files. IsTextOutcome files (g.S.Sink.written c.args.out.now) (g.S.Sink.written c.text_from.new.out) (g.S.Sink.has_failed c.text_from.new.out)) c.text_from.result c.text_from.ensures.outcome
