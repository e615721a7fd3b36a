-- A draw uses the keys of the text's paragraphs.
use Rattle.std.proofs.Common.{List, take, refl, ap, ◌∙◌}
use Rattle.std.proofs.lemmas.List.Elements.{All-same}
use Rattle.std.proofs.lemmas.Result.{err_from_is_err_and}
use Rattle.paragraphs.specs.Paragraphs.{Paragraph, paragraphs, StandsIn}
use Rattle.cell_grid.proofs.Interface.{all-drawable}
use Rattle.view_cache.specs.Drawings.{KeptView, paragraph_keys}
use Rattle.view_cache.proofs.Drawing.{after_keys, drawing-begun, drawing-done, drawn-done}
use Rattle.view_cache.proofs.view.View.draw.Goals as goal

pub returns-in_err-paragraphs : goal.returns-in_err-paragraphs
returns-in_err-paragraphs c =
    let p = err_from_is_err_and c.from_residual.result c.from_residual.ensures.1 in
    drawing-begun c.args.width c.args.base c.args.self.now c.args.text.now c.args.self.now 0 c.from_residual.result p.0 p.1 refl

pub push_each-requires-clause-at_least : goal.push_each-requires-clause-at_least
push_each-requires-clause-at_least c = c.requires.at_least

pub push_each-requires-clause-at_most : goal.push_each-requires-clause-at_most
push_each-requires-clause-at_most c = c.requires.at_most

pub push_each-requires-clause-paragraphs : goal.push_each-requires-clause-paragraphs
push_each-requires-clause-paragraphs c =
    all-drawable c.args.text.now c.utf8.text c.requires.size c.deref.result.now
    (All-same (StandsIn c.args.text.now) c.deref.result.now _ c.deref.ensures.value c.in_ok-paragraphs.ensures.slices)

pub returns-in_err-laid : goal.returns-in_err-laid
returns-in_err-laid c =
    let before = c.args.self.now in
    let p = err_from_is_err_and c.from_residual-in_err-laid.result c.from_residual-in_err-laid.ensures.1 in
    let items = c.deref.ensures.value ∙ c.in_ok-paragraphs.ensures.ok ∙ ap (λ (v : KeptView). paragraphs v.tables c.args.text.now) c.self.view_is in
    let begun = c.in_err-laid.ensures.begun in
    drawing-begun c.args.width c.args.base before c.args.text.now c.push_each.new.self begun.0 c.from_residual-in_err-laid.result p.0 p.1
    (begun.1 ∙ ap (λ (ps : List Paragraph). after_keys c.args.width c.args.base before (take begun.0 (paragraph_keys c.args.width c.args.base ps))) items)

pub of-requires : goal.of-requires
of-requires c =
    let items = c.deref.ensures.value ∙ c.in_ok-paragraphs.ensures.ok ∙ ap (λ (v : KeptView). paragraphs v.tables c.args.text.now) c.self.view_is in
    drawn-done c.args.width c.args.base c.args.self.now c.args.text.now c.deref.result.now items c.new-rows.result.items c.push_each.new.drawn.items c.new-rows.ensures.items c.in_ok-laid.ensures.rows
    _ (c.self-2.view_is ∙ c.in_ok-laid.ensures.view) c.requires.at_least c.requires.at_most c.utf8.text c.requires.size

pub invariant_of-self : goal.invariant_of-self
invariant_of-self c = c.self-2.invariant

pub returns : goal.returns
returns c =
    let items = c.deref.ensures.value ∙ c.in_ok-paragraphs.ensures.ok ∙ ap (λ (v : KeptView). paragraphs v.tables c.args.text.now) c.self.view_is in
    drawing-done c.args.width c.args.base c.args.self.now c.args.text.now c.deref.result.now items c.new-rows.result.items c.push_each.new.drawn.items c.new-rows.ensures.items c.in_ok-laid.ensures.rows
    _ (c.self-2.view_is ∙ c.in_ok-laid.ensures.view) c.in_ok-laid.laid c.in_ok-laid.ensures.laid c.of.result c.of.ensures
