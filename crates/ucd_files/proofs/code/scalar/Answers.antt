-- The goals of `scalar` that are answered by hand.
use Rattle.std.proofs.Common.{None, Some, cond, ap, ◌∙◌}
use Rattle.std.specs.Option.{option_and_then}
use Rattle.ucd_files.specs.Code.{scalar_of, is_surrogate}
use Rattle.ucd_files.proofs.Codes.{from_u32_is}
use Rattle.ucd_files.proofs.code.scalar.Goals as goal

pub returns : goal.returns
unfolding scalar_of
returns c =
    from_u32_is c.from_u32.result c.in_ok-code.field-0 c.in_ok-code.ensures.bound c.from_u32.ensures.cases c.from_u32.ensures.value
    ∙ ap (option_and_then (λ n. cond (is_surrogate n) None (Some n))) c.in_ok-code.ensures.value
