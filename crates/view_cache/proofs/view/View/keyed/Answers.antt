-- The view of rows of which none are kept.
use Rattle.std.proofs.Common.{sym, ap, subst}
use Rattle.std.proofs.lemmas.List.Elements.{All-nil}
use Rattle.view_cache.specs.KeptParagraphs.{IsLaidBy, AreLaid}
use Rattle.view_cache.proofs.Kept.{view_of}
use Rattle.view_cache.proofs.view.View.keyed.Goals as goal

pub invariant_of-result : goal.invariant_of-result
invariant_of-result c = subst (AreLaid c.args.tables.now) (sym c.in_ok-kept.ensures) (All-nil (IsLaidBy c.args.tables.now))

pub returns : goal.returns
returns c = ap (λ k. view_of c.args.tables.now k 0) c.in_ok-kept.ensures
