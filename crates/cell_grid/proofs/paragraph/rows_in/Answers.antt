-- A row for each line.
use Rattle.std.proofs.Common.{◌+◌, ◌<◌, ◌∷◌, [], ◌++◌, List, length, map, take, drop, get_or, refl, sym, ap, subst, ◌∙◌, arith}
use Rattle.std.proofs.lemmas.List.{map-append}
use Rattle.line_break.specs.declared.line.Line.{Line}
use Rattle.cell_grid.specs.Rows.{DrawnRow, row_of}
use Rattle.cell_grid.specs.Outline.{IsLine}
use Rattle.cell_grid.specs.Parts.{left_of}
use Rattle.cell_grid.proofs.LinePieces.{Chain, chain-lines, AreAhead, ahead-here, ahead-on, text-runs, from-start, within-start}
use Rattle.cell_grid.proofs.Steps.{drop-next, take-next, take-whole}
use Rattle.cell_grid.proofs.Counting.{few-clusters}
use Rattle.cell_grid.proofs.LinesOf.{IsLine-lines}
use Rattle.cell_grid.proofs.paragraph.rows_in.Goals as goal

pub lines_into-requires-clause-runs : goal.lines_into-requires-clause-runs
lines_into-requires-clause-runs c = record { spans = c.requires.runs.spans; columns = c.requires.runs.columns }

pub loop-line-init : goal.loop-line-init
loop-line-init c =
    let m = c.args.material.now in
    let runs = m.clusters.now.runs.items in
    let items = c.deref-line-items.ensures.value ∙ c.in_ok-lines_into.ensures in
    record {
      made = c.in_ok-rows.ensures.items;
      ahead = record {
        from = 0;
        chain = subst (Chain 0) (sym items) (chain-lines c.laws_below.ensures m.tables.now m.text.now c.args.width);
        are = from-start runs c.start-cursor.result.first c.start-cursor.result.next c.start-cursor.ensures.first c.start-cursor.ensures.next m.tables.now m.text.now c.requires.runs;
      };
      within =
          within-start runs c.start-cursor.result.first c.start-cursor.result.next c.start-cursor.ensures.first c.start-cursor.ensures.next c.start-cursor.ensures.within
          (text-runs c.laws_below.ensures m.tables.now m.text.now c.requires.text c.requires.size runs c.requires.some c.requires.runs);
    }

pub row_of-requires-clause-at_start : goal.row_of-requires-clause-at_start
row_of-requires-clause-at_start c =
    let m = c.args.material.now in
    let items = c.deref-line-items.result.now in
    let i = c.loop-line.line-index in
    let d : Line = record { start = 0; end = 0 } in
    let line : Line = get_or items i d in
    let left = left_of m.clusters.now.runs.items c.loop-line.cursor in
    ahead-here m.tables.now m.text.now (get_or items i d) (drop (i + 1) items) left
    (subst (λ (l : List Line). AreAhead m.tables.now m.text.now l left) (drop-next items i (get_or items i d) d c.loop-line-test.true refl) c.loop-line.invariant.ahead)

pub row_of-requires-clause-size : goal.row_of-requires-clause-size
row_of-requires-clause-size c =
    let few = few-clusters c.laws_below.ensures c.args.material.now.text.now c.requires.text in
    let all = c.requires.size in
    omega arith

pub row_of-requires-clause-line : goal.row_of-requires-clause-line
row_of-requires-clause-line c =
    let i = c.loop-line.line-index in
    let d : Line = record { start = 0; end = 0 } in
    let tables = c.args.material.now.tables.now in
    let text = c.args.material.now.text.now in
    let items = c.deref-line-items.ensures.value ∙ c.in_ok-lines_into.ensures in
    let lt = subst (λ (l : List Line). i < length l) items c.loop-line-test.true in
    subst (λ (l : List Line). IsLine tables c.args.width text (get_or l i d)) (sym items)
    (IsLine-lines c.laws_below.ensures tables text c.requires.text c.args.width c.requires.at_least i d lt)

pub loop-line-preserved : goal.loop-line-preserved
loop-line-preserved c =
    let i = c.loop-line.line-index in
    let items = c.deref-line-items.result.now in
    let d : Line = record { start = 0; end = 0 } in
    let line : Line = get_or items i d in
    let m = c.args.material.now in
    let f : Line → DrawnRow = row_of m.tables.now c.args.width m.para_level m.text.now m.levels.now in
    let left = left_of m.clusters.now.runs.items c.loop-line.cursor in
    let next = left_of m.clusters.now.runs.items c.row_of.new.cursor in
    record {
      made =
          c.in_ok-push.ensures.items
          ∙ ap (λ l. l ++ c.in_ok-row_of.field-0 ∷ []) c.loop-line.invariant.made
          ∙ ap (λ r. map f (take i items) ++ r ∷ []) c.in_ok-row_of.ensures.row
          ∙ sym (map-append f (take i items) (line ∷ []))
          ∙ sym (ap (map f) (take-next items i line d c.loop-line-test.true refl));
      ahead =
          ahead-on m.tables.now m.text.now (get_or items i d) (drop (i + 1) items) left next
          (subst (λ (l : List Line). AreAhead m.tables.now m.text.now l left) (drop-next items i (get_or items i d) d c.loop-line-test.true refl) c.loop-line.invariant.ahead)
          c.in_ok-row_of.ensures.at_end;
      within = c.in_ok-row_of.ensures.within;
    }

pub returns : goal.returns
returns c =
    let m = c.args.material.now in
    let f : Line → DrawnRow = row_of m.tables.now c.args.width m.para_level m.text.now m.levels.now in
    let items = c.deref-line-items.ensures.value ∙ c.in_ok-lines_into.ensures in
    c.loop-line.invariant.made
    ∙ ap (map f) (take-whole c.deref-line-items.result.now c.loop-line.line-index c.loop-line-test.false ∙ items)
