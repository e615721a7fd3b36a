-- The goals of `identifier_order` that are answered by hand.
use Rattle.bg_types.proofs.IdentifierOrder.{id_cmp-total, id_cmp-exact}
use Rattle.bg_types.proofs.laws.identifier_order.Goals as goal

pub returns-clause-total : goal.returns-clause-total
returns-clause-total c = id_cmp-total

pub returns-clause-exact : goal.returns-clause-exact
returns-clause-exact c = id_cmp-exact
