-- The goal of `take_unless_more_come` that is answered by hand.
use Rattle.std.proofs.Common.{List, ◌++◌, sym, ap, subst, ◌∙◌, append-nil}
use Rattle.bg_types.specs.declared.op.OpView.{OpView}
use Rattle.desk_files.specs.Taking.{HasTaken}
use Rattle.desk_files.proofs.one_desk.take_unless_more_come.Goals as goal

pub returns-clause-taken : goal.returns-clause-taken
returns-clause-taken c =
    λ ops h. (
      ops,
      sym (ap (λ (l : List OpView). ops ++ l) c.clear.ensures.items ∙ append-nil ops),
      subst (λ (l : List OpView). HasTaken l c.take_more.new.desk.set c.take_more.new.refused) (ap (λ (l : List OpView). h.0 ++ l) c.deref_mut.ensures.value ∙ sym h.1) (c.in_ok-take_more.ensures.taken h.0 h.2),
    )
