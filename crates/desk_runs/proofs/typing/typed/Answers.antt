-- The goals of `typed` that are answered by hand.
use Rattle.std.proofs.Common.{inl, inr, refl, subst}
use Rattle.std.specs.Io.KnownBytes.{Appends}
use Rattle.std.proofs.KnownBytes.{Keeps-refl}
use Rattle.bg_types.specs.Sink.{AppendsBeginning}
use Rattle.desk_files.specs.declared.run_fault.RunFault.TheVariants.{Device}
use Rattle.desk_files.proofs.Interface.{answer_handed, told_so}
use Rattle.desk_runs.specs.declared.typing_fault.TypingFault.TheVariants.{Run}
use Rattle.desk_runs.specs.TypedOutcome.{IsTypedFile, WritesTyped, WritesTypedBeginning, IsTypedOutcome}
use Rattle.desk_runs.proofs.typing.typed.Goals as goal

pub returns-in_err-file-clause-outcome : goal.returns-in_err-file-clause-outcome
returns-in_err-file-clause-outcome g c =
    let old = g.S.Sink.written c.args.out.now in
    let failed = g.S.Sink.has_failed c.args.out.now in
    answer_handed (IsTypedOutcome c.args.version _ _ _ c.args.change.now c.args.text.now old old failed) c.from_residual.result c.in_err-file.field-0.0 c.from_residual.ensures.1
    (inl (c.in_err-file.ensures.fault, (c.requires.working, Keeps-refl old)))

pub returns-in_err-put_all-clause-outcome : goal.returns-in_err-put_all-clause-outcome
returns-in_err-put_all-clause-outcome g c =
    let old = g.S.Sink.written c.args.out.now in
    let new = g.S.Sink.written c.put_all.new.sink in
    let failed = g.S.Sink.has_failed c.put_all.new.sink in
    let version = c.args.version in
    let change = c.args.change.now in
    let text = c.args.text.now in
    let file = c.in_ok-file.file.items in
    answer_handed (IsTypedOutcome version _ _ _ change text old new failed) c.from_residual-in_err-put_all.result (Run Device) c.from_residual-in_err-put_all.ensures.1
    (inr (
      refl,
      c.in_err-put_all.ensures.failed,
      told_so _ _ (λ files. IsTypedFile version files change text file) (λ files. WritesTypedBeginning version files change text old new)
          (λ files typed. record { file = file; is_typed = typed; written = subst (AppendsBeginning old new) c.as_slice.ensures.value c.in_err-put_all.ensures.err }) c.in_ok-file.ensures.ok,
    ))

pub returns-clause-outcome : goal.returns-clause-outcome
returns-clause-outcome g c =
    let old = g.S.Sink.written c.args.out.now in
    let new = g.S.Sink.written c.put_all.new.sink in
    let version = c.args.version in
    let change = c.args.change.now in
    let text = c.args.text.now in
    let file = c.in_ok-file.file.items in (
      c.in_ok-put_all.ensures.failed,
      told_so _ _ (λ files. IsTypedFile version files change text file) (λ files. WritesTyped version files change text old new)
          (λ files typed. record { file = file; is_typed = typed; written = subst (Appends old new) c.as_slice.ensures.value c.in_ok-put_all.ensures.ok }) c.in_ok-file.ensures.ok,
    )
