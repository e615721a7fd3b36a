-- The goals of `backwards` that are answered by hand.
use Rattle.std.proofs.Common.{◌∙◌, ◌-◌, refl, ap, sym, arith}
use Rattle.caret.specs.declared.caret.Caret.{Caret}
use Rattle.caret.proofs.CaretAt.{IsCaretOf-in_row}
use Rattle.caret.proofs.CaretRows.{element_read, row_within, backwards-row}
use Rattle.caret.proofs.among.backwards.Goals as goal

pub returns-clause-caret : goal.returns-clause-caret
returns-clause-caret c =
    let rows = c.args.rows.now in
    let before = c.index-rows-caret.result in
    let at = element_read rows rows (c.args.caret.row - 1) before refl (omega (arith, row_within rows c.args.caret c.requires)) c.index-rows-caret.is in
    c.logical_end.ensures.caret ∙ sym (backwards-row rows c.args.caret before (omega arith) at)

pub returns-clause-within : goal.returns-clause-within
returns-clause-within c =
    let rows = c.args.rows.now in
    let before = c.index-rows-caret.result in
    let at = element_read rows rows (c.args.caret.row - 1) before refl (omega (arith, row_within rows c.args.caret c.requires)) c.index-rows-caret.is in
    IsCaretOf-in_row rows (c.args.caret.row - 1) before c.logical_end.result at (ap (λ (k : Caret). k.row) c.logical_end.ensures.caret) c.logical_end.ensures.within
