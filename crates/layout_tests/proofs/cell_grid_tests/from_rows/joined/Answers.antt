-- The rows of all paragraphs are those of the text.
use Rattle.std.proofs.Common.{◌++◌, flat_map, sym, ap, subst, ◌∙◌}
use Rattle.std.proofs.lemmas.List.Elements.{All-same}
use Rattle.paragraphs.specs.Paragraphs.{StandsIn}
use Rattle.cell_grid.specs.Grids.{IsDrawable, paragraph_rows}
use Rattle.cell_grid.proofs.Interface.{all-drawable, flat_map-take_next, take-whole}
use Rattle.layout_tests.proofs.cell_grid_tests.from_rows.joined.Goals as goal

pub loop-para-init : goal.loop-para-init
loop-para-init c = c.new-all.ensures.items

pub push_copies-requires-clause-para : goal.push_copies-requires-clause-para
push_copies-requires-clause-para c =
    let items = c.deref-para-items.result.now in
    let stand = All-same (StandsIn c.args.text.now) items _ c.deref-para-items.ensures.value c.in_ok-paragraphs.ensures.slices in
    subst IsDrawable (sym c.para-item.is)
    (all-drawable c.args.text.now c.utf8.text c.requires.size items stand c.loop-para.para-index c.para-item.result c.loop-para-test.true)

pub loop-para-preserved : goal.loop-para-preserved
loop-para-preserved c =
    let f = paragraph_rows c.args.tables.now c.args.width c.args.base in
    let para = c.para-item.result in
    c.in_ok-push_copies.ensures
    ∙ ap (λ l. l ++ f para) c.loop-para.invariant
    ∙ sym (flat_map-take_next f c.deref-para-items.result.now c.loop-para.para-index para para c.loop-para-test.true c.para-item.is)

pub of-requires : goal.of-requires
of-requires c = record {
  width = c.args.width;
  base = c.args.base;
  at_least = c.requires.at_least;
  at_most = c.requires.at_most;
  utf8 = c.utf8.text;
  size = c.requires.size;
  rows =
      c.loop-para.invariant
      ∙ ap (flat_map (paragraph_rows c.args.tables.now c.args.width c.args.base))
      (take-whole c.deref-para-items.result.now c.loop-para.para-index c.loop-para-test.false ∙ c.deref-para-items.ensures.value ∙ c.in_ok-paragraphs.ensures.ok);
}
