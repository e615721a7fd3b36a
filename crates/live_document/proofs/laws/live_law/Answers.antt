-- Each call leaves a window of the text of now.
use Rattle.std.proofs.Common.{inl, refl, sym, ◌∙◌}
use Rattle.live_document.proofs.Runs.{run-of_now, same-windows}
use Rattle.live_document.proofs.laws.live_law.Goals as goal

pub returns-clause-of_now : goal.returns-clause-of_now
returns-clause-of_now c = λ start now calls none run. run-of_now start now calls (inl none) run

pub returns-clause-same_rows : goal.returns-clause-same_rows
returns-clause-same_rows c = λ one other one_shown other_shown place above below set tables width base shown shown_too.
    shown.window refl ∙ same-windows one other place above below set tables width base ∙ sym (shown_too.window refl)
