-- The goals of `replace` that are answered by hand.
use Rattle.std.proofs.Common.{◌-◌, length, inl, inr}
use Rattle.std.proofs.lemmas.Bool.{cases_lt}
use Rattle.std.specs.Str.{chars}
use Rattle.bg_types.specs.OperationSet.{next}
use Rattle.desk_replica.specs.declared.answer.TypeFault.TheVariants.{CounterSpent}
use Rattle.desk_runs.proofs.operations.replace.Goals as goal

pub returns-in-Ok-clause-counters : goal.returns-in-Ok-clause-counters
returns-in-Ok-clause-counters c =
    let left = 4294967296 - next c.args.desk.now.set in
    elim (cases_lt left (length (chars c.args.text.now))) [ inl spent ↦ absurd (c.in-Ok.ensures.accepted CounterSpent spent) | inr within ↦ within ]
