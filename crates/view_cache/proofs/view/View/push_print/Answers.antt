-- A use of the paragraph's key, and what the rows under it print.
use Rattle.std.proofs.Common.{◌++◌, ◌∷◌, [], flat_map, append-nil, inl, inr, ap, ◌∙◌}
use Rattle.std.proofs.lemmas.Grind.{flat_map-append}
use Rattle.std.specs.Rc.{rc_slice_items}
use Rattle.cell_grid.specs.Print.{printed_paragraph}
use Rattle.cell_grid.proofs.Interface.{on_err}
use Rattle.view_cache.specs.Keys.{paragraph_key}
use Rattle.view_cache.specs.Drawings.{KeptView}
use Rattle.view_cache.proofs.Kept.{view_of, view-same, view-used, anew-seen}
use Rattle.view_cache.proofs.view.View.push_print.Goals as goal

pub newest_print-requires-clause-laid : goal.newest_print-requires-clause-laid
newest_print-requires-clause-laid c = c.in_ok-laid.ensures.laid c.self.invariant

pub returns-in_err-laid-clause-err : goal.returns-in_err-laid-clause-err
returns-in_err-laid-clause-err c =
    on_err c.from_residual.result (inl (ap (λ k. view_of c.self.inside.tables.now k c.self.inside.laid) c.in_err-laid.ensures.err ∙ c.self.view_is))

pub returns-in_err-print-clause-err : goal.returns-in_err-print-clause-err
returns-in_err-print-clause-err c =
    let inside = c.self.inside in
    let key = paragraph_key c.args.para.now.text c.args.width c.args.base in
    let same = c.in_err-print.ensures in
    on_err c.from_residual-in_err-print.result
    (inr (view-same inside.tables.now c.keep.new.self c.newest_print.new.self inside.laid same.room same.hash_key same.keys
    ∙ view-used inside.tables.now inside.kept c.keep.new.self inside.laid c.args.self.now c.self.view_is key c.in_ok-laid.laid c.in_ok-laid.ensures.use_ok))

pub returns-in_err-push-clause-err : goal.returns-in_err-push-clause-err
returns-in_err-push-clause-err c =
    let inside = c.self.inside in
    let key = paragraph_key c.args.para.now.text c.args.width c.args.base in
    let same = c.in_ok-print.ensures in
    on_err c.from_residual-in_err-push.result
    (inr (view-same inside.tables.now c.keep.new.self c.newest_print.new.self inside.laid same.room same.hash_key same.keys
    ∙ view-used inside.tables.now inside.kept c.keep.new.self inside.laid c.args.self.now c.self.view_is key c.in_ok-laid.laid c.in_ok-laid.ensures.use_ok))

pub returns-clause-print : goal.returns-clause-print
returns-clause-print c =
    let before = c.args.parts.now.items in
    ap (flat_map rc_slice_items) c.in_ok-push.ensures.items
    ∙ flat_map-append rc_slice_items before (c.in_ok-print.print ∷ [])
    ∙ ap (λ l. flat_map rc_slice_items before ++ l)
    (append-nil (rc_slice_items c.in_ok-print.print) ∙ c.in_ok-print.ensures.print
    ∙ ap (λ (v : KeptView). printed_paragraph v.tables c.args.width c.args.base c.args.para.now.text) c.self.view_is)

pub returns-clause-laid : goal.returns-clause-laid
returns-clause-laid c =
    let inside = c.self.inside in
    let key = paragraph_key c.args.para.now.text c.args.width c.args.base in
    anew-seen inside.tables.now inside.kept c.keep.new.self inside.laid c.args.self.now c.self.view_is key c.in_ok-laid.laid c.in_ok-laid.ensures.use_ok

pub returns-clause-view : goal.returns-clause-view
returns-clause-view c =
    let inside = c.self.inside in
    let key = paragraph_key c.args.para.now.text c.args.width c.args.base in
    let same = c.in_ok-print.ensures in
    view-same inside.tables.now c.keep.new.self c.newest_print.new.self inside.laid same.room same.hash_key same.keys
    ∙ view-used inside.tables.now inside.kept c.keep.new.self inside.laid c.args.self.now c.self.view_is key c.in_ok-laid.laid c.in_ok-laid.ensures.use_ok
