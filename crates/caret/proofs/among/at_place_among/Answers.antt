-- The row that was found ends at the place, or has a cluster that holds it.
use Rattle.std.proofs.Common.{ap, sym, ◌∙◌, refl}
use Rattle.caret.specs.Places.{row_at, at_end, at_cluster}
use Rattle.caret.proofs.CaretAt.{found_row, IsCaretOf-in_row, among-end, among-cluster}
use Rattle.caret.proofs.among.at_place_among.Goals as goal

pub returns-then-place-last_place-clause-caret : goal.returns-then-place-last_place-clause-caret
returns-then-place-last_place-clause-caret c =
    let rows = c.args.rows.now in
    let row = c.index-rows-number.result in
    let found = found_row rows rows c.row_at-number.result (row_at rows c.args.place) row refl c.row_at-number.ensures.number c.row_at-number.ensures.within c.index-rows-number.is in
    c.at_end.ensures.caret ∙ ap (λ n. at_end n row) c.row_at-number.ensures.number ∙ among-end rows c.args.place row found (c.if-place-last_place.true ∙ c.last_place.ensures)

pub returns-then-place-last_place-clause-within : goal.returns-then-place-last_place-clause-within
returns-then-place-last_place-clause-within c =
    let rows = c.args.rows.now in
    let row = c.index-rows-number.result in
    let number = c.row_at-number.result in
    let found = found_row rows rows number number row refl refl c.row_at-number.ensures.within c.index-rows-number.is in
    IsCaretOf-in_row rows number row c.at_end.result found c.at_end.ensures.row c.at_end.ensures.within

pub returns-else-place-last_place-clause-caret : goal.returns-else-place-last_place-clause-caret
returns-else-place-last_place-clause-caret c =
    let rows = c.args.rows.now in
    let row = c.index-rows-number.result in
    let found = found_row rows rows c.row_at-number.result (row_at rows c.args.place) row refl c.row_at-number.ensures.number c.row_at-number.ensures.within c.index-rows-number.is in
    c.at_cluster.ensures.caret ∙ ap (λ n. at_cluster c.args.place n row) c.row_at-number.ensures.number
    ∙ among-cluster rows c.args.place row found (λ same. c.if-place-last_place.false (same ∙ sym c.last_place.ensures))

pub returns-else-place-last_place-clause-within : goal.returns-else-place-last_place-clause-within
returns-else-place-last_place-clause-within c =
    let rows = c.args.rows.now in
    let row = c.index-rows-number.result in
    let number = c.row_at-number.result in
    let found = found_row rows rows number number row refl refl c.row_at-number.ensures.within c.index-rows-number.is in
    IsCaretOf-in_row rows number row c.at_cluster.result found c.at_cluster.ensures.row c.at_cluster.ensures.within
