-- The goals of `up_among` that are answered by hand.
use Rattle.std.proofs.Common.{◌∙◌, refl, ◌-◌, ap, sym, arith}
use Rattle.caret.specs.declared.caret.Caret.{Caret}
use Rattle.caret.specs.Moves.{caret_by}
use Rattle.caret.proofs.CaretAt.{IsCaretOf-in_row}
use Rattle.caret.proofs.CaretRows.{element_read, row_within, row_read, up_of-row}
use Rattle.caret.proofs.among.up_among.Goals as goal

pub returns-clause-caret : goal.returns-clause-caret
returns-clause-caret c =
    let rows = c.args.rows.now in
    let before = c.args.caret.row - 1 in
    let above = c.index-rows-caret-2.result in
    let row = c.index-rows-caret.result in
    let is = row_read rows rows c.args.caret row c.requires refl c.index-rows-caret.is in
    let at = element_read rows rows before above refl (omega (arith, row_within rows c.args.caret c.requires)) c.index-rows-caret-2.is in
    c.caret_by.ensures.caret ∙ ap (λ column. caret_by column before above) c.gap_column-column.ensures
    ∙ sym (up_of-row rows c.args.caret row is above (omega arith) at)

pub returns-clause-within : goal.returns-clause-within
returns-clause-within c =
    let rows = c.args.rows.now in
    let before = c.args.caret.row - 1 in
    let above = c.index-rows-caret-2.result in
    let at = element_read rows rows before above refl (omega (arith, row_within rows c.args.caret c.requires)) c.index-rows-caret-2.is in
    IsCaretOf-in_row rows before above c.caret_by.result at (ap (λ (k : Caret). k.row) c.caret_by.ensures.caret) c.caret_by.ensures.within
