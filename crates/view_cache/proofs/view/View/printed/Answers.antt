-- A print uses the keys of the text's paragraphs.
use Rattle.std.proofs.Common.{List, take, flat_map, refl, ap, ◌∙◌}
use Rattle.std.proofs.lemmas.List.Elements.{All-same}
use Rattle.std.proofs.lemmas.Result.{err_from_is_err_and}
use Rattle.std.specs.Rc.{rc_slice_items}
use Rattle.paragraphs.specs.Paragraphs.{Paragraph, paragraphs, StandsIn}
use Rattle.cell_grid.proofs.Interface.{all-drawable}
use Rattle.view_cache.specs.Drawings.{KeptView, paragraph_keys}
use Rattle.view_cache.proofs.Drawing.{after_keys, printing-begun, printing-done}
use Rattle.view_cache.proofs.view.View.printed.Goals as goal

pub returns-in_err-paragraphs : goal.returns-in_err-paragraphs
returns-in_err-paragraphs c =
    let p = err_from_is_err_and c.from_residual.result c.from_residual.ensures.1 in
    printing-begun c.args.width c.args.base c.args.self.now c.args.text.now c.args.self.now 0 c.from_residual.result p.0 p.1 refl

pub push_prints-requires-clause-at_least : goal.push_prints-requires-clause-at_least
push_prints-requires-clause-at_least c = c.requires.at_least

pub push_prints-requires-clause-at_most : goal.push_prints-requires-clause-at_most
push_prints-requires-clause-at_most c = c.requires.at_most

pub push_prints-requires-clause-paragraphs : goal.push_prints-requires-clause-paragraphs
push_prints-requires-clause-paragraphs c =
    all-drawable c.args.text.now c.utf8.text c.requires.size c.deref.result.now
    (All-same (StandsIn c.args.text.now) c.deref.result.now _ c.deref.ensures.value c.in_ok-paragraphs.ensures.slices)

pub returns-in_err-laid : goal.returns-in_err-laid
returns-in_err-laid c =
    let before = c.args.self.now in
    let p = err_from_is_err_and c.from_residual-in_err-laid.result c.from_residual-in_err-laid.ensures.1 in
    let items = c.deref.ensures.value ∙ c.in_ok-paragraphs.ensures.ok ∙ ap (λ (v : KeptView). paragraphs v.tables c.args.text.now) c.self.view_is in
    let begun = c.in_err-laid.ensures.begun in
    printing-begun c.args.width c.args.base before c.args.text.now c.push_prints.new.self begun.0 c.from_residual-in_err-laid.result p.0 p.1
    (begun.1 ∙ ap (λ (ps : List Paragraph). after_keys c.args.width c.args.base before (take begun.0 (paragraph_keys c.args.width c.args.base ps))) items)

pub invariant_of-self : goal.invariant_of-self
invariant_of-self c = c.self-2.invariant

pub returns : goal.returns
returns c =
    let before = c.args.self.now in
    let text = c.args.text.now in
    let items = c.deref.ensures.value ∙ c.in_ok-paragraphs.ensures.ok ∙ ap (λ (v : KeptView). paragraphs v.tables text) c.self.view_is in
    printing-done c.args.width c.args.base before text c.deref.result.now items
    _ (c.self-2.view_is ∙ c.in_ok-laid.ensures.view) c.in_ok-laid.laid c.in_ok-laid.ensures.laid
    (flat_map rc_slice_items c.new-parts.result.items) c.of.result (ap (flat_map rc_slice_items) c.new-parts.ensures.items) (c.of.ensures ∙ c.in_ok-laid.ensures.print)
    (c.paragraphs_print_alike.ensures before.tables c.args.width c.args.base text c.requires.at_least c.utf8.text)
