-- The goals of `link` that are answered by hand.
use Rattle.std.proofs.Common.{Some, ap, sym, ◌∙◌, cond}
use Rattle.bg_types.specs.declared.op.Place.{Place}
use Rattle.pending_ops.specs.Waiting.{is_after}
use Rattle.pending_ops.specs.Chains.{first_in}
use Rattle.pending_ops.proofs.Tables.{from_ok, lookup-updated}
use Rattle.pending_ops.proofs.chains.link.Goals as goal

pub returns-in-After-clause-first : goal.returns-in-After-clause-first
returns-in-After-clause-first c = λ p.
    lookup-updated c.args.firsts.now.entries c.insert.new.self.entries c.in-After.above (Some c.args.id) (from_ok c.insert.result _ (c.insert.ensures.succeeds c.requires) c.insert.ensures.updates).0 p
    ∙ ap (λ (a : Place). cond (is_after a p) (Some c.args.id) (first_in c.args.firsts.now.entries p)) (sym c.in-After.is)
