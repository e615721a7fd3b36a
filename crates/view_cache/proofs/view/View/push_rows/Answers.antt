-- A use of the paragraph's key, and copies of the rows under it.
use Rattle.std.proofs.Common.{◌++◌, map, inl, inr, sym, ap, subst, ◌∙◌}
use Rattle.std.specs.List.{All}
use Rattle.cell_grid.specs.Rows.{rows_of, shifted}
use Rattle.cell_grid.specs.Shifting.{MayShiftRow}
use Rattle.cell_grid.proofs.Interface.{on_err}
use Rattle.view_cache.specs.Keys.{paragraph_key}
use Rattle.view_cache.specs.Drawings.{KeptView}
use Rattle.view_cache.proofs.Kept.{view_of, view-used, anew-seen}
use Rattle.view_cache.proofs.view.View.push_rows.Goals as goal

pub push_shifted-requires-clause-may : goal.push_shifted-requires-clause-may
push_shifted-requires-clause-may c =
    let p = c.args.para.now in
    let tables = c.self.inside.tables.now in
    let key = paragraph_key p.text c.args.width c.args.base in
    let rows = c.newest.ensures tables key (c.in_ok-laid.ensures.laid c.self.invariant) c.in_ok-laid.ensures.newest in
    subst (All (MayShiftRow p.first_byte p.first_place)) (sym rows)
    (c.rows_may_shift.ensures tables c.args.width c.args.base p.text c.requires.at_least c.requires.para.utf8 p.first_byte p.first_place c.requires.para.bytes c.requires.para.places)

pub returns-in_err-laid-clause-err : goal.returns-in_err-laid-clause-err
returns-in_err-laid-clause-err c =
    on_err c.from_residual.result (inl (ap (λ k. view_of c.self.inside.tables.now k c.self.inside.laid) c.in_err-laid.ensures.err ∙ c.self.view_is))

pub returns-in_err-push_shifted-clause-err : goal.returns-in_err-push_shifted-clause-err
returns-in_err-push_shifted-clause-err c =
    let inside = c.self.inside in
    let key = paragraph_key c.args.para.now.text c.args.width c.args.base in
    on_err c.from_residual-in_err-push_shifted.result
    (inr (view-used inside.tables.now inside.kept c.keep.new.self inside.laid c.args.self.now c.self.view_is key c.in_ok-laid.laid c.in_ok-laid.ensures.use_ok))

pub returns-clause-rows : goal.returns-clause-rows
returns-clause-rows c =
    let p = c.args.para.now in
    let tables = c.self.inside.tables.now in
    let key = paragraph_key p.text c.args.width c.args.base in
    let rows = c.newest.ensures tables key (c.in_ok-laid.ensures.laid c.self.invariant) c.in_ok-laid.ensures.newest in
    c.in_ok-push_shifted.ensures
    ∙ ap (λ l. c.args.drawn.now.items ++ map (shifted p.first_byte p.first_place) l) (rows ∙ ap (λ (v : KeptView). rows_of v.tables c.args.width c.args.base p.text) c.self.view_is)

pub returns-clause-laid : goal.returns-clause-laid
returns-clause-laid c =
    let inside = c.self.inside in
    let key = paragraph_key c.args.para.now.text c.args.width c.args.base in
    anew-seen inside.tables.now inside.kept c.keep.new.self inside.laid c.args.self.now c.self.view_is key c.in_ok-laid.laid c.in_ok-laid.ensures.use_ok

pub returns-clause-view : goal.returns-clause-view
returns-clause-view c =
    let inside = c.self.inside in
    let key = paragraph_key c.args.para.now.text c.args.width c.args.base in
    view-used inside.tables.now inside.kept c.keep.new.self inside.laid c.args.self.now c.self.view_is key c.in_ok-laid.laid c.in_ok-laid.ensures.use_ok
