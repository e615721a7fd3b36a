-- The goals of `code` that are answered by hand.
use Rattle.std.proofs.Common.{sym, ◌∙◌, ⊎_elim, arith}
use Rattle.ucd_files.proofs.Codes.{few_digits, spelled-more, code_of-short, code_of-long, code_of-other, code_of-great, code_of-spelled}
use Rattle.ucd_files.proofs.code.code.Goals as goal

pub returns-then-digits-lt4-clause-value : goal.returns-then-digits-lt4-clause-value
returns-then-digits-lt4-clause-value c =
    sym (⊎_elim (code_of-short c.args.digits.now) (λ h. code_of-long c.args.digits.now h.1) c.then-digits-lt4.either)

pub overflow_mul-code : goal.overflow_mul-code
overflow_mul-code c =
    omega (arith, few_digits c.loop-b.code c.loop-b.b-index c.loop-b.invariant.2 (omega arith))

pub overflow_add-code : goal.overflow_add-code
overflow_add-code c =
    omega (arith, few_digits c.loop-b.code c.loop-b.b-index c.loop-b.invariant.2 (omega arith), c.in_ok-code.ensures.value.0, c.in_ok-code.ensures.value.1)

pub loop-b-preserved : goal.loop-b-preserved
loop-b-preserved c =
    let i = c.loop-b.invariant in
    let more = spelled-more c.args.digits.now c.loop-b.b-index c.loop-b.code c.from.result c.in_ok-code.field-0 (omega arith) c.from.ensures
    c.in_ok-code.ensures.value.0 c.in_ok-code.ensures.value.1 i.0 i.1 i.2 in (more.0, more.1, more.2, i.3, i.4)

pub returns-in_err-code-clause-value : goal.returns-in_err-code-clause-value
returns-in_err-code-clause-value c =
    c.from_residual.ensures ∙ sym (code_of-other c.args.digits.now c.loop-b.b-index c.from.result (omega arith) (omega arith) (omega arith) c.from.ensures c.in_err-code.ensures.value)

pub returns-then-code-gt1114111-clause-value : goal.returns-then-code-gt1114111-clause-value
returns-then-code-gt1114111-clause-value c =
    sym (code_of-great c.args.digits.now c.loop-b.b-index c.loop-b.code (omega arith) (omega arith) (omega arith) c.loop-b.invariant.0 c.loop-b.invariant.1 (omega arith))

pub returns-clause-value : goal.returns-clause-value
returns-clause-value c =
    sym (code_of-spelled c.args.digits.now c.loop-b.b-index c.loop-b.code (omega arith) (omega arith) (omega arith) c.loop-b.invariant.0 c.loop-b.invariant.1 (omega arith))
