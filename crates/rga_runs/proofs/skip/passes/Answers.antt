-- The goal of `passes` that is answered by hand.
use Rattle.std.proofs.Common.{◌∙◌, sym}
use Rattle.std.proofs.lemmas.Bool.{eq-eqb}
use Rattle.rga_runs.proofs.Low.{all_pass}
use Rattle.rga_runs.proofs.skip.passes.Goals as goal

pub returns-then-is_below : goal.returns-then-is_below
returns-then-is_below c = let b = c.args.block.now in let low = b.low in c.if-is_below.true ∙ sym (eq-eqb _ _ (all_pass c.args.id b.least b.stretches.items (sym c.is_below.ensures ∙ c.if-is_below.true) low))
