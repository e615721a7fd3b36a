-- The rows of each paragraph.
use Rattle.std.proofs.Common.{◌≡◌, ◌≤◌, ◌++◌, ℕ, List, length, take, flat_map, sym, ap, subst, ◌∙◌}
use Rattle.std.proofs.lemmas.List.Elements.{All-same}
use Rattle.std.specs.Str.{IsUtf8}
use Rattle.bg_types.specs.declared.class.Base.{Base}
use Rattle.unicode_tables.specs.Tables.{TableValues}
use Rattle.paragraphs.specs.Paragraphs.{Paragraph, paragraphs, StandsIn}
use Rattle.cell_grid.specs.Rows.{DrawnRow}
use Rattle.cell_grid.specs.Grids.{DrawnGrid, IsDrawable, paragraph_rows, grid_rows, IsDrawn}
use Rattle.cell_grid.proofs.Steps.{flat_map-take_next, take-whole}
use Rattle.cell_grid.proofs.Slicing.{all-drawable}
use Rattle.cell_grid.proofs.grid.draw.Goals as goal

-- a grid with these rows
abbrev grid_with : TableValues → List ℕ → List DrawnRow → DrawnGrid
grid_with tables text rows = record { tables = tables; text = text; rows = rows }

pub loop-para-init : goal.loop-para-init
loop-para-init c = c.in_ok-rows.ensures.items

pub push_rows-requires-clause-para : goal.push_rows-requires-clause-para
push_rows-requires-clause-para c =
    let items = c.deref-para-items.result.now in
    let stand = All-same (StandsIn c.args.text.now) items _ c.deref-para-items.ensures.value c.in_ok-paragraphs.ensures.slices in
    subst IsDrawable (sym c.para-item.is)
    (all-drawable c.args.text.now c.utf8.text c.requires.size items stand c.loop-para.para-index c.para-item.result c.loop-para-test.true)

pub loop-para-preserved : goal.loop-para-preserved
loop-para-preserved c =
    let f = paragraph_rows c.args.tables.now c.args.width c.args.base in
    let items = c.deref-para-items.result.now in
    c.in_ok-push_rows.ensures
    ∙ ap (λ l. l ++ f c.para-item.result) c.loop-para.invariant
    ∙ sym (flat_map-take_next f items c.loop-para.para-index c.para-item.result c.para-item.result c.loop-para-test.true c.para-item.is)

-- the rows of all paragraphs are those of the text
all-rows : (tables : TableValues) (width : ℕ) (base : Base) (text : List ℕ) (rows : List DrawnRow) (items found : List Paragraph) (i : ℕ)
    → rows ≡ flat_map (paragraph_rows tables width base) (take i items) → length items ≤ i → items ≡ found → found ≡ paragraphs tables text → rows ≡ grid_rows tables width base text
all-rows tables width base text rows items found i so_far all lent is = so_far ∙ ap (flat_map (paragraph_rows tables width base)) (take-whole items i all ∙ lent ∙ is)

drawn_with : (tables : TableValues) (width : ℕ) (base : Base) (text : List ℕ) (rows : List DrawnRow) → 2 ≤ width → width ≤ 500 → IsUtf8 text → length text ≤ 4_000_000
    → rows ≡ grid_rows tables width base text → IsDrawn (grid_with tables text rows)
drawn_with tables width base text rows low high utf8 size made = record { width = width; base = base; at_least = low; at_most = high; utf8 = utf8; size = size; rows = made }

pub of-requires : goal.of-requires
of-requires c =
    let tables = c.args.tables.now in
    let text = c.args.text.now in
    let made = all-rows tables c.args.width c.args.base text _ _ _ _ c.loop-para.invariant c.loop-para-test.false c.deref-para-items.ensures.value c.in_ok-paragraphs.ensures.ok in
    drawn_with tables c.args.width c.args.base text _ c.requires.at_least c.requires.at_most c.utf8.text c.requires.size made

pub returns-clause-grid : goal.returns-clause-grid
returns-clause-grid c =
    let tables = c.args.tables.now in
    let text = c.args.text.now in
    c.of.ensures
    ∙ ap (grid_with tables text)
    (all-rows tables c.args.width c.args.base text _ _ _ _ c.loop-para.invariant c.loop-para-test.false c.deref-para-items.ensures.value c.in_ok-paragraphs.ensures.ok)

pub returns-clause-drawn : goal.returns-clause-drawn
returns-clause-drawn c =
    let tables = c.args.tables.now in
    let text = c.args.text.now in
    let made = all-rows tables c.args.width c.args.base text _ _ _ _ c.loop-para.invariant c.loop-para-test.false c.deref-para-items.ensures.value c.in_ok-paragraphs.ensures.ok in
    subst IsDrawn (sym c.of.ensures) (drawn_with tables c.args.width c.args.base text _ c.requires.at_least c.requires.at_most c.utf8.text c.requires.size made)
