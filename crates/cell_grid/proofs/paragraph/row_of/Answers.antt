-- The row of a line that fits.
use Rattle.std.proofs.Common.{◌-◌, List, length, take, sum, slice_range, refl, sym, ap, subst, ◌∙◌, arith}
use Rattle.std.proofs.lemmas.List.{length-map, length-take-le}
use Rattle.std.proofs.lemmas.Result.{IfOk-weaker}
use Rattle.std.specs.List.{All}
use Rattle.line_break.specs.declared.run.ShapeRun.{ShapeRun}
use Rattle.bg_types.specs.declared.class.Bidi.{Bidi}
use Rattle.unicode_tables.specs.Tables.{bidi_of}
use Rattle.paragraphs.specs.Text.{code_points}
use Rattle.reorder.specs.LineLevels.{levels_after_l1, group_firsts}
use Rattle.cell_grid.specs.declared.cluster_run.ClusterRun.{ClusterRun}
use Rattle.cell_grid.specs.Hanging.{hung}
use Rattle.cell_grid.specs.Parts.{all_spans, all_sizes, all_columns, IsWithin, left_of, AreFrom, ArePassed}
use Rattle.cell_grid.specs.Pieces.{spans_of, levels_of, columns_of}
use Rattle.cell_grid.specs.Rows.{row_with}
use Rattle.cell_grid.specs.Runs.{runs_columns}
use Rattle.cell_grid.specs.Spans.{extent}
use Rattle.cell_grid.proofs.LinePieces.{line-next, line-later, line-ahead, after-long, whole-order, whole-within, row-pieces}
use Rattle.cell_grid.proofs.Parts.{length-slice}
use Rattle.cell_grid.proofs.PieceCuts.{sum-columns}
use Rattle.cell_grid.proofs.Sides.{sum-hung}
use Rattle.cell_grid.proofs.paragraph.row_of.Goals as goal

pub extent-whole-requires-clause-clusters : goal.extent-whole-requires-clause-clusters
extent-whole-requires-clause-clusters c =
    let m = c.args.material.now in
    line-ahead m.tables.now m.text.now c.args.line (left_of c.deref.result.now c.args.cursor.now) c.requires.line.within
    (subst (λ (l : List ShapeRun). AreFrom m.tables.now m.text.now c.args.line.start (left_of l c.args.cursor.now)) (sym c.deref.ensures.value) c.requires.at_start)

pub slice_bounds-classes-start : goal.slice_bounds-classes-start
slice_bounds-classes-start c =
    let m = c.args.material.now in
    let runs = left_of m.clusters.now.runs.items c.args.cursor.now in
    let count = c.args.line.end - c.args.line.start in
    let line = line-next m.tables.now m.text.now c.args.line (c.args.line.end - c.args.line.start) runs c.requires.line.order refl c.requires.at_start in
    let at = c.extent-whole.ensures ∙ ap (λ (l : List ShapeRun). extent (take (c.args.line.end - c.args.line.start) (all_spans (left_of l c.args.cursor.now)))) c.deref.ensures.value in
    let order = whole-order m.tables.now c.args.width m.para_level m.text.now m.levels.now c.args.line c.requires.line count runs line c.extent-whole.result at in
    omega arith

pub slice_bounds-classes-end : goal.slice_bounds-classes-end
slice_bounds-classes-end c =
    let m = c.args.material.now in
    let runs = left_of m.clusters.now.runs.items c.args.cursor.now in
    let count = c.args.line.end - c.args.line.start in
    let line = line-next m.tables.now m.text.now c.args.line (c.args.line.end - c.args.line.start) runs c.requires.line.order refl c.requires.at_start in
    let at = c.extent-whole.ensures ∙ ap (λ (l : List ShapeRun). extent (take (c.args.line.end - c.args.line.start) (all_spans (left_of l c.args.cursor.now)))) c.deref.ensures.value in
    let within = whole-within m.tables.now c.args.width m.para_level m.text.now m.levels.now c.args.line c.requires.line count runs line c.extent-whole.result at in
    let many = ap length c.requires.classes ∙ length-map (code_points m.text.now) (bidi_of m.tables.now) in
    omega arith

pub slice_bounds-before-start : goal.slice_bounds-before-start
slice_bounds-before-start c =
    let m = c.args.material.now in
    let runs = left_of m.clusters.now.runs.items c.args.cursor.now in
    let count = c.args.line.end - c.args.line.start in
    let line = line-next m.tables.now m.text.now c.args.line (c.args.line.end - c.args.line.start) runs c.requires.line.order refl c.requires.at_start in
    let at = c.extent-whole.ensures ∙ ap (λ (l : List ShapeRun). extent (take (c.args.line.end - c.args.line.start) (all_spans (left_of l c.args.cursor.now)))) c.deref.ensures.value in
    let order = whole-order m.tables.now c.args.width m.para_level m.text.now m.levels.now c.args.line c.requires.line count runs line c.extent-whole.result at in
    omega arith

pub slice_bounds-before-end : goal.slice_bounds-before-end
slice_bounds-before-end c =
    let m = c.args.material.now in
    let runs = left_of m.clusters.now.runs.items c.args.cursor.now in
    let count = c.args.line.end - c.args.line.start in
    let line = line-next m.tables.now m.text.now c.args.line (c.args.line.end - c.args.line.start) runs c.requires.line.order refl c.requires.at_start in
    let at = c.extent-whole.ensures ∙ ap (λ (l : List ShapeRun). extent (take (c.args.line.end - c.args.line.start) (all_spans (left_of l c.args.cursor.now)))) c.deref.ensures.value in
    let within = whole-within m.tables.now c.args.width m.para_level m.text.now m.levels.now c.args.line c.requires.line count runs line c.extent-whole.result at in
    let many = c.requires.levels in
    omega arith

pub levels_after_l1-requires : goal.levels_after_l1-requires
levels_after_l1-requires c =
    let m = c.args.material.now in
    let runs = left_of m.clusters.now.runs.items c.args.cursor.now in
    let count = c.args.line.end - c.args.line.start in
    let line = line-next m.tables.now m.text.now c.args.line (c.args.line.end - c.args.line.start) runs c.requires.line.order refl c.requires.at_start in
    let at = c.extent-whole.ensures ∙ ap (λ (l : List ShapeRun). extent (take (c.args.line.end - c.args.line.start) (all_spans (left_of l c.args.cursor.now)))) c.deref.ensures.value in
    let order = whole-order m.tables.now c.args.width m.para_level m.text.now m.levels.now c.args.line c.requires.line count runs line c.extent-whole.result at in
    let within = whole-within m.tables.now c.args.width m.para_level m.text.now m.levels.now c.args.line c.requires.line count runs line c.extent-whole.result at in
    let many = ap length c.requires.classes ∙ length-map (code_points m.text.now) (bidi_of m.tables.now) in
    let whole = c.extent-whole.result in
    length-slice m.levels.now whole.first_place whole.end_place order (omega (arith, within, c.requires.levels))
    ∙ sym (length-slice m.classes.now whole.first_place whole.end_place order (omega (arith, within, many)))

pub cut-requires-clause-clusters : goal.cut-requires-clause-clusters
cut-requires-clause-clusters c =
    let m = c.args.material.now in
    line-ahead m.tables.now m.text.now c.args.line (left_of c.deref-2.result.now c.args.cursor.now) c.requires.line.within
    (subst (λ (l : List ShapeRun). AreFrom m.tables.now m.text.now c.args.line.start (left_of l c.args.cursor.now)) (sym c.deref-2.ensures.value) c.requires.at_start)

pub cut-requires-clause-levels : goal.cut-requires-clause-levels
cut-requires-clause-levels c =
    let m = c.args.material.now in
    let runs = left_of m.clusters.now.runs.items c.args.cursor.now in
    let count = c.args.line.end - c.args.line.start in
    let line = line-next m.tables.now m.text.now c.args.line (c.args.line.end - c.args.line.start) runs c.requires.line.order refl c.requires.at_start in
    let at = c.extent-whole.ensures ∙ ap (λ (l : List ShapeRun). extent (take (c.args.line.end - c.args.line.start) (all_spans (left_of l c.args.cursor.now)))) c.deref.ensures.value in
    let l1 = c.in_ok-levels_after_l1.ensures
    ∙ ap (λ (cs : List Bidi). levels_after_l1 m.para_level (slice_range cs c.extent-whole.result.first_place c.extent-whole.result.end_place)
    (slice_range m.levels.now c.extent-whole.result.first_place c.extent-whole.result.end_place)) c.requires.classes in
    ap (λ (l : List ShapeRun). sum (take count (all_sizes (left_of l c.args.cursor.now)))) c.deref-2.ensures.value
    ∙ after-long m.tables.now c.args.width m.para_level m.text.now m.levels.now c.args.line c.requires.line count runs line c.extent-whole.result at c.levels_after_l1.new.after.items c.requires.levels l1
    ∙ sym (ap length c.deref-3.ensures.value)

pub of_pieces-requires-clause-room : goal.of_pieces-requires-clause-room
of_pieces-requires-clause-room c =
    let all = sum-columns c.cut.new.pieces.items in
    let own = ap sum c.in_ok-cut.ensures.columns in
    let fits = sum-hung c.args.width (take (c.args.line.end - c.args.line.start) (all_columns (left_of c.deref-2.result.now c.args.cursor.now))) in
    let lent = ap runs_columns c.deref-4.ensures.value in
    omega arith

pub of_pieces-requires-clause-whole : goal.of_pieces-requires-clause-whole
of_pieces-requires-clause-whole c =
    let m = c.args.material.now in
    let runs = left_of m.clusters.now.runs.items c.args.cursor.now in
    let count = c.args.line.end - c.args.line.start in
    let line = line-next m.tables.now m.text.now c.args.line (c.args.line.end - c.args.line.start) runs c.requires.line.order refl c.requires.at_start in
    let at = c.extent-whole.ensures ∙ ap (λ (l : List ShapeRun). extent (take (c.args.line.end - c.args.line.start) (all_spans (left_of l c.args.cursor.now)))) c.deref.ensures.value in
    at ∙ sym (ap (λ (l : List ClusterRun). extent (spans_of l)) c.deref-4.ensures.value
    ∙ ap extent (c.in_ok-cut.ensures.spans ∙ ap (λ (l : List ShapeRun). take count (all_spans (left_of l c.args.cursor.now))) c.deref-2.ensures.value))

pub of_pieces-requires-clause-count : goal.of_pieces-requires-clause-count
of_pieces-requires-clause-count c =
    let m = c.args.material.now in
    let ahead = line-ahead m.tables.now m.text.now c.args.line (left_of c.deref-2.result.now c.args.cursor.now) c.requires.line.within
    (subst (λ (l : List ShapeRun). AreFrom m.tables.now m.text.now c.args.line.start (left_of l c.args.cursor.now)) (sym c.deref-2.ensures.value) c.requires.at_start) in
    let whole = length-take-le (c.args.line.end - c.args.line.start) (all_spans (left_of c.deref-2.result.now c.args.cursor.now)) ahead in
    let own = ap length (ap spans_of c.deref-4.ensures.value ∙ c.in_ok-cut.ensures.spans) in
    omega arith

pub returns-clause-row : goal.returns-clause-row
returns-clause-row c =
    let m = c.args.material.now in
    let runs = left_of m.clusters.now.runs.items c.args.cursor.now in
    let count = c.args.line.end - c.args.line.start in
    let line = line-next m.tables.now m.text.now c.args.line (c.args.line.end - c.args.line.start) runs c.requires.line.order refl c.requires.at_start in
    let at = c.extent-whole.ensures ∙ ap (λ (l : List ShapeRun). extent (take (c.args.line.end - c.args.line.start) (all_spans (left_of l c.args.cursor.now)))) c.deref.ensures.value in
    let l1 = c.in_ok-levels_after_l1.ensures
    ∙ ap (λ (cs : List Bidi). levels_after_l1 m.para_level (slice_range cs c.extent-whole.result.first_place c.extent-whole.result.end_place)
    (slice_range m.levels.now c.extent-whole.result.first_place c.extent-whole.result.end_place)) c.requires.classes in
    let same_spans = c.in_ok-cut.ensures.spans ∙ ap (λ (l : List ShapeRun). take count (all_spans (left_of l c.args.cursor.now))) c.deref-2.ensures.value in
    let same_levels = c.in_ok-cut.ensures.levels
    ∙ ap (λ (l : List ShapeRun). group_firsts (take count (all_sizes (left_of l c.args.cursor.now))) c.deref-3.result.now) c.deref-2.ensures.value
    ∙ ap (group_firsts (take count (all_sizes runs))) c.deref-3.ensures.value in
    let same_columns = c.in_ok-cut.ensures.columns ∙ ap (λ (l : List ShapeRun). hung c.args.width (take count (all_columns (left_of l c.args.cursor.now)))) c.deref-2.ensures.value in
    IfOk-weaker c.of_pieces.result _ _
    (λ row e. e ∙ ap (λ (l : List ClusterRun). row_with c.args.width m.para_level (spans_of l) (levels_of l) (columns_of l)) c.deref-4.ensures.value
    ∙ row-pieces m.tables.now c.args.width m.para_level m.text.now m.levels.now c.args.line c.requires.line count runs line c.extent-whole.result at c.levels_after_l1.new.after.items c.requires.levels
    l1 c.cut.new.pieces.items same_spans same_levels same_columns)
    c.of_pieces.ensures

pub returns-clause-at_end : goal.returns-clause-at_end
returns-clause-at_end c =
    let m = c.args.material.now in
    let runs = left_of m.clusters.now.runs.items c.args.cursor.now in
    let next = left_of m.clusters.now.runs.items c.cut.new.cursor in
    let count = c.args.line.end - c.args.line.start in
    let passed = subst (λ (l : List ShapeRun). ArePassed count (left_of l c.args.cursor.now) (left_of l c.cut.new.cursor)) c.deref-2.ensures.value c.in_ok-cut.ensures.passed in
    IfOk-weaker c.of_pieces.result _ _
    (λ row e. line-later m.tables.now m.text.now c.args.line count runs c.requires.line.order refl c.requires.at_start next passed)
    c.of_pieces.ensures

pub returns-clause-within : goal.returns-clause-within
returns-clause-within c =
    IfOk-weaker c.of_pieces.result _ _
    (λ row e. subst (λ (l : List ShapeRun). All IsWithin (left_of l c.cut.new.cursor)) c.deref-2.ensures.value c.in_ok-cut.ensures.within)
    c.of_pieces.ensures
