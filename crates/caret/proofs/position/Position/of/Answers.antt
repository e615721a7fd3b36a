-- The row that is read is the caret's.
use Rattle.std.proofs.Common.{refl, sym, ap, ◌∙◌}
use Rattle.caret.specs.declared.position.Position.{Position}
use Rattle.caret.proofs.CaretRows.{row_read}
use Rattle.caret.proofs.Positions.{first_or_0}
use Rattle.caret.proofs.position.Position.of.Goals as goal

pub returns : goal.returns
returns c =
    let rows = c.args.rows.now in
    let caret = c.args.caret in
    let row = c.index-rows-caret.result in
    let is = row_read rows rows caret row c.requires refl c.index-rows-caret.is in
    ap (λ n. let p : Position = record { row = n; gap = caret.gap; place = caret.place } in p) (c.first_place.ensures ∙ sym (ap first_or_0 is))
