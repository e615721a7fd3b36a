-- The goals of `first_fault` that are answered by hand.
use Rattle.std.proofs.Common.{sym, ap, ◌∙◌}
use Rattle.op_codec.specs.Feed.{kept_fault}
use Rattle.op_codec.proofs.Feeds.{kept_none}
use Rattle.op_codec.proofs.cut.first_fault.Goals as goal

pub returns-in-Ok : goal.returns-in-Ok
returns-in-Ok c = sym (ap (λ p. kept_fault p c.args.kept.now) c.in-Some.is ∙ kept_none c.in-Some.at c.args.kept.now _ _ c.in-Ok.ensures.ok)
