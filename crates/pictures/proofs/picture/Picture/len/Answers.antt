-- The last row ends behind the text's code points.
use Rattle.std.proofs.Common.{◌-◌, ◌<◌, List, length, sym, ◌∙◌, subst, arith}
use Rattle.std.specs.Str.{chars}
use Rattle.cell_grid.specs.Rows.{DrawnRow}
use Rattle.cell_grid.specs.Laws.{RowsFollow}
use Rattle.pictures.proofs.LastRow.{last-ends}
use Rattle.pictures.proofs.picture.Picture.len.Goals as goal

pub returns : goal.returns
returns c =
    let grid = c.args.self.now in
    let rows = c.rows-rows.result.now in
    let drawn = c.rows-rows.ensures.drawn in
    let end = length (chars grid.text) in
    let follow = subst (λ (l : List DrawnRow). RowsFollow 0 l end) (sym c.rows-rows.ensures.rows) (c.rows_follow.ensures.follow grid drawn) in
    let some : 0 < length rows = subst (λ (l : List DrawnRow). 0 < length l) (sym c.rows-rows.ensures.rows) (c.rows_follow.ensures.some grid drawn) in
    c.last_place.ensures ∙ last-ends rows (length rows - 1) 0 end c.index-rows-last.result follow (omega (arith, some)) c.index-rows-last.is
