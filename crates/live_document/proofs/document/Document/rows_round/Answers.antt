-- A document that was caught up has the same text, and so the same window.
use Rattle.std.proofs.Common.{◌≡◌, ◌≤◌, inl, inr, List, length, sym, ap, subst, ◌∙◌}
use Rattle.std.specs.Prelude.{Result, Ok, Err, IfOk, OnOk}
use Rattle.rga_tree.specs.TextOf.{visible}
use Rattle.desk_replica.specs.Desk.{Desk}
use Rattle.cell_grid.specs.Rows.{DrawnRow}
use Rattle.cell_grid.specs.Grids.{DrawnGrid}
use Rattle.cell_grid.specs.Windows.{DrawnWindow, window_of}
use Rattle.cell_grid.proofs.Interface.{on_err}
use Rattle.live_document.proofs.Cost.{laid-from}
use Rattle.live_document.proofs.Positions.{whole-alike}
use Rattle.live_document.proofs.document.Document.rows_round.Goals as goal

on_ok : {A E P : Type 0} (r : Result A E) → P → OnOk r P
on_ok (Ok v) h = h
on_ok (Err e) h = tt

pub show-requires-clause-place : goal.show-requires-clause-place
show-requires-clause-place c =
    subst (λ (desk : Desk). c.args.place ≤ length (visible desk.set)) (sym c.refresh.ensures.desk) (c.requires.place c.in_ok-refresh.ensures.whole)

pub returns-in_err-show-clause-uncounted : goal.returns-in_err-show-clause-uncounted
returns-in_err-show-clause-uncounted c = on_err c.from_residual-in_err-show.result (inl (c.in_err-show.ensures.uncounted ∙ c.refresh.ensures.laid))

pub returns-clause-whole : goal.returns-clause-whole
returns-clause-whole c = on_ok c.to_rows.result c.in_ok-refresh.ensures.whole

pub returns-clause-copies : goal.returns-clause-copies
returns-clause-copies c =
    let same = ap (λ (g : DrawnGrid). window_of c.args.around c.args.around c.args.place g.rows) (whole-alike c.args.self.now c.refresh.new.self c.refresh.ensures.desk c.refresh.ensures.drawn) in
    let is = ap (λ (w : DrawnWindow). w.rows) (c.window.ensures.window ∙ c.in_ok-show.ensures.window ∙ same) in
    subst (λ (l : List DrawnRow). IfOk c.to_rows.result (λ rows. rows.items ≡ l)) is c.to_rows.ensures

pub returns-clause-window : goal.returns-clause-window
returns-clause-window c =
    let same = ap (λ (g : DrawnGrid). window_of c.args.around c.args.around c.args.place g.rows) (whole-alike c.args.self.now c.refresh.new.self c.refresh.ensures.desk c.refresh.ensures.drawn) in
    on_ok c.to_rows.result (c.in_ok-show.ensures.window ∙ same)

pub returns-clause-laid : goal.returns-clause-laid
returns-clause-laid c =
    on_ok c.to_rows.result (laid-from c.refresh.new.self c.args.self.now c.show.new.self c.args.place c.args.around c.args.around c.refresh.ensures.paragraphs c.in_ok-show.ensures.laid)

pub returns-clause-uncounted : goal.returns-clause-uncounted
returns-clause-uncounted c =
    on_err c.to_rows.result (inr (laid-from c.refresh.new.self c.args.self.now c.show.new.self c.args.place c.args.around c.args.around c.refresh.ensures.paragraphs c.in_ok-show.ensures.laid))
