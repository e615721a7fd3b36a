-- The goals of `told_changes` that are answered by hand.
use Rattle.std.proofs.Common.{[], ◌+◌, length, ap, subst, ◌∙◌, length-append}
use Rattle.bg_types.specs.OperationSet.{no_operations}
use Rattle.bg_types.specs.Edit.{IsEdit}
use Rattle.rga_tree.specs.TextOf.{text}
use Rattle.rga_tree.proofs.Interface.{AllWellFormed-part}
use Rattle.desk_replica.specs.Telling.{changes_of, is_shown}
use Rattle.desk_replica.proofs.Tellings.{told_change, told_in_turn, text-nothing}
use Rattle.desk_replica.proofs.Counts.{told_length}
use Rattle.desk_replica.proofs.laws.told_changes.Goals as goal

pub returns-clause-change : goal.returns-clause-change
returns-clause-change c = told_change

pub returns-clause-in_turn : goal.returns-clause-in_turn
returns-clause-in_turn c = told_in_turn

pub returns-clause-count : goal.returns-clause-count
returns-clause-count c = λ s t old new h.
    ap length h.appended ∙ length-append old (changes_of t (is_shown s) h.steps)
    ∙ ap (λ n. length old + n) (told_length s t h.steps (AllWellFormed-part s t h.are_steps.well_formed h.are_steps.part) h.are_steps)

pub returns-clause-fresh : goal.returns-clause-fresh
returns-clause-fresh c = λ s told h. subst (λ t. IsEdit t told (text s)) text-nothing (told_change no_operations s [] told h)

pub returns-clause-nothing : goal.returns-clause-nothing
returns-clause-nothing c = text-nothing
