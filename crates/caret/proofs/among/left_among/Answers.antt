-- The goals of `left_among` that are answered by hand.
use Rattle.std.proofs.Common.{◌≡◌, ◌∙◌, refl, ◌-◌, ap, sym, true, false, Some}
use Rattle.std.specs.Prelude.{slice_get}
use Rattle.reorder.specs.VisualList.{is_odd}
use Rattle.caret.proofs.Steps.{element_before-is, left_of-inside}
use Rattle.caret.proofs.CaretRows.{row_read, gap_within, none_before, left_of-edge}
use Rattle.caret.proofs.among.left_among.Goals as goal

pub returns-in-Some-clause-caret : goal.returns-in-Some-clause-caret
returns-in-Some-clause-caret c =
    let rows = c.args.rows.now in
    let row = c.index-rows-caret.result in
    let before = c.in-Some.before in
    let is = row_read rows rows c.args.caret row c.requires refl c.index-rows-caret.is in
    let at : slice_get row.entries (c.args.caret.gap - 1) ≡ Some before =
    sym (element_before-is row.entries c.args.caret.gap c.in-Some.ensures.some) ∙ sym c.in-Some.ensures.entry in
    cc (left_of-inside rows row c.args.caret before is c.in-Some.ensures.some at)

pub returns-in-None-clause-caret : goal.returns-in-None-clause-caret
returns-in-None-clause-caret c =
    let rows = c.args.rows.now in
    let row = c.index-rows-caret.result in
    let is = row_read rows rows c.args.caret row c.requires refl c.index-rows-caret.is in
    let first = none_before row.entries c.args.caret.gap (gap_within rows c.args.caret row c.requires is) c.in-None.ensures.entry in
    c.onwards.ensures.caret ∙ sym (left_of-edge rows c.args.caret row is true first (c.if-is_odd.ensures ∙ ap is_odd c.para_level.ensures))

pub returns-in-None-2-clause-caret : goal.returns-in-None-2-clause-caret
returns-in-None-2-clause-caret c =
    let rows = c.args.rows.now in
    let row = c.index-rows-caret.result in
    let is = row_read rows rows c.args.caret row c.requires refl c.index-rows-caret.is in
    let first = none_before row.entries c.args.caret.gap (gap_within rows c.args.caret row c.requires is) c.in-None-2.ensures.entry in
    c.backwards.ensures.caret ∙ sym (left_of-edge rows c.args.caret row is false first (c.if-is_odd.ensures ∙ ap is_odd c.para_level.ensures))
