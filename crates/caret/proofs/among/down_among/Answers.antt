-- The goals of `down_among` that are answered by hand.
use Rattle.std.proofs.Common.{◌∙◌, refl, ◌+◌, ap, sym, arith}
use Rattle.caret.specs.declared.caret.Caret.{Caret}
use Rattle.caret.specs.Moves.{caret_by}
use Rattle.caret.proofs.CaretAt.{IsCaretOf-in_row}
use Rattle.caret.proofs.CaretRows.{element_read, row_read, down_of-row, down_of-last}
use Rattle.caret.proofs.among.down_among.Goals as goal

pub returns-in-Some-clause-caret : goal.returns-in-Some-clause-caret
returns-in-Some-clause-caret c =
    let rows = c.args.rows.now in
    let row = c.index-rows-caret.result in
    let below = c.args.caret.row + 1 in
    let next = c.in-Some.next.now in
    let lookup = c.in-Some.ensures.lookup in
    let is = row_read rows rows c.args.caret row c.requires refl c.index-rows-caret.is in
    let at = element_read rows rows below next refl (omega (arith, lookup.3.0)) lookup.1 in
    c.caret_by.ensures.caret ∙ ap (λ column. caret_by column below next) c.gap_column-column.ensures
    ∙ sym (down_of-row rows c.args.caret row is next at)

pub returns-in-Some-clause-within : goal.returns-in-Some-clause-within
returns-in-Some-clause-within c =
    let rows = c.args.rows.now in
    let below = c.args.caret.row + 1 in
    let next = c.in-Some.next.now in
    let lookup = c.in-Some.ensures.lookup in
    let at = element_read rows rows below next refl (omega (arith, lookup.3.0)) lookup.1 in
    IsCaretOf-in_row rows below next c.caret_by.result at (ap (λ (k : Caret). k.row) c.caret_by.ensures.caret) c.caret_by.ensures.within

pub returns-in-None-clause-caret : goal.returns-in-None-clause-caret
returns-in-None-clause-caret c =
    sym (down_of-last c.args.rows.now c.args.caret (omega (arith, c.in-None.ensures.lookup.3)))
