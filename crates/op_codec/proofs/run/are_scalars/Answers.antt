-- The goals of `are_scalars` that are answered by hand.
use Rattle.std.proofs.Common.{List, ℕ, ◌-◌, drop, length, sym, ap, ◌∙◌, arith}
use Rattle.std.specs.List.{list_all}
use Rattle.std.proofs.Math.Utf8.{scalar}
use Rattle.std.proofs.lemmas.List.{take_all, length-drop}
use Rattle.op_codec.specs.Fault.{characters_in}
use Rattle.op_codec.proofs.Runs.{scalars_more, scalar_made}
use Rattle.op_codec.proofs.run.are_scalars.Goals as goal

pub loop-rest-preserved : goal.loop-rest-preserved
loop-rest-preserved c =
    let rest = c.loop-rest.rest.now in
    let all = take_all (length rest - 4) (drop 4 rest) (omega (arith, length-drop 4 rest)) in
    c.loop-rest.invariant ∙ scalars_more rest c.loop-rest-test.true (ap scalar (sym c.read_u32.ensures) ∙ scalar_made c.from_u32.result c.read_u32.result c.is_none.result c.from_u32.ensures.value c.is_none.ensures c.if-is_none.false) ∙ ap (λ (s : List ℕ). list_all scalar (characters_in s)) (sym all)
