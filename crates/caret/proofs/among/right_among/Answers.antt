-- The goals of `right_among` that are answered by hand.
use Rattle.std.proofs.Common.{◌∙◌, ◌+◌, refl, ap, sym, true, false, arith}
use Rattle.std.proofs.lemmas.Option.{slice_get_within}
use Rattle.reorder.specs.VisualList.{is_odd}
use Rattle.caret.specs.declared.caret.Caret.{Caret}
use Rattle.caret.proofs.CaretAt.{IsCaretOf-in_row}
use Rattle.caret.proofs.Steps.{right_of-inside}
use Rattle.caret.proofs.CaretRows.{none_there, row_read, right_of-edge}
use Rattle.caret.proofs.among.right_among.Goals as goal

pub overflow_add-result : goal.overflow_add-result
overflow_add-result c =
    let row = c.index-rows-caret.result in
    omega (arith, slice_get_within row.entries c.args.caret.gap c.in-Some.entry (sym c.in-Some.ensures), c.entry_count-count.ensures.count, c.entry_count-count.ensures.most)

pub returns-in-Some-clause-within : goal.returns-in-Some-clause-within
returns-in-Some-clause-within c =
    let rows = c.args.rows.now in
    let row = c.index-rows-caret.result in
    let is = row_read rows rows c.args.caret row c.requires refl c.index-rows-caret.is in
    let within = slice_get_within row.entries c.args.caret.gap c.in-Some.entry (sym c.in-Some.ensures) in
    let moved : Caret = record { row = c.args.caret.row; gap = c.args.caret.gap + 1; place = c.right_side.result } in
    IsCaretOf-in_row rows c.args.caret.row row moved is refl (omega (arith, within))

pub returns-in-Some-clause-caret : goal.returns-in-Some-clause-caret
returns-in-Some-clause-caret c =
    let rows = c.args.rows.now in
    let row = c.index-rows-caret.result in
    let entry = c.in-Some.entry in
    let is = row_read rows rows c.args.caret row c.requires refl c.index-rows-caret.is in
    cc (right_of-inside rows row c.args.caret entry is (sym c.in-Some.ensures))

pub returns-in-None-clause-caret : goal.returns-in-None-clause-caret
returns-in-None-clause-caret c =
    let rows = c.args.rows.now in
    let row = c.index-rows-caret.result in
    let is = row_read rows rows c.args.caret row c.requires refl c.index-rows-caret.is in
    let level = c.if-is_odd.ensures ∙ ap is_odd c.para_level.ensures in
    cc (right_of-edge rows c.args.caret row is true (none_there row.entries c.args.caret.gap c.in-None.ensures) level)

pub returns-in-None-2-clause-caret : goal.returns-in-None-2-clause-caret
returns-in-None-2-clause-caret c =
    let rows = c.args.rows.now in
    let row = c.index-rows-caret.result in
    let is = row_read rows rows c.args.caret row c.requires refl c.index-rows-caret.is in
    let level = c.if-is_odd.ensures ∙ ap is_odd c.para_level.ensures in
    c.onwards.ensures.caret ∙ sym (right_of-edge rows c.args.caret row is false (none_there row.entries c.args.caret.gap c.in-None-2.ensures) level)
