-- Each paragraph's key is used in turn.
use Rattle.std.proofs.Common.{◌+◌, flat_map, ◌++◌, append-nil, inl, inr, refl, sym, ap, subst, ◌∙◌, arith}
use Rattle.std.specs.Rc.{rc_slice_items}
use Rattle.cell_grid.specs.Grids.{IsDrawable}
use Rattle.cell_grid.proofs.Interface.{take-whole, on_err}
use Rattle.view_cache.proofs.Drawing.{so_far, laid_so_far, print_so_far, so_far-begun, next-view, next-print, counted-then, counted-else, most-then, most-else}
use Rattle.view_cache.proofs.view.View.push_prints.Goals as goal
use Rattle.view_cache.proofs.view.View.push_prints.Goals.{then-branch, else-branch}

pub returns-in_err-reserve-clause-begun : goal.returns-in_err-reserve-clause-begun
returns-in_err-reserve-clause-begun c = on_err c.from_residual.result (0, refl)

pub loop-para-init : goal.loop-para-init
loop-para-init c = record { print = ap (flat_map rc_slice_items) c.in_ok-reserve.ensures.items ∙ sym (append-nil (flat_map rc_slice_items c.args.parts.now.items)); view = refl; laid = refl; most = omega arith }

pub push_print-requires-clause-at_least : goal.push_print-requires-clause-at_least
push_print-requires-clause-at_least c = c.requires.at_least

pub push_print-requires-clause-at_most : goal.push_print-requires-clause-at_most
push_print-requires-clause-at_most c = c.requires.at_most

pub push_print-requires-clause-para : goal.push_print-requires-clause-para
push_print-requires-clause-para c = subst IsDrawable (sym c.para-item.is) (c.requires.paragraphs c.loop-para.para-index c.para-item.result c.loop-para-test.true)

pub returns-in_err-push_print-clause-begun : goal.returns-in_err-push_print-clause-begun
returns-in_err-push_print-clause-begun c =
    let before = c.args.self.now in
    let items = c.args.paragraphs.now in
    let i = c.loop-para.para-index in
    let p = c.para-item.result in
    let view = c.loop-para.invariant.view in
    on_err c.from_residual-in_err-push_print.result
    (elim c.in_err-push_print.ensures.err [
      | inl same ↦ (i, same ∙ view ∙ so_far-begun c.args.width c.args.base before i items)
      | inr used ↦ (
        i + 1,
        next-view c.args.width c.args.base before items i p p c.loop-para-test.true c.para-item.is c.loop-para.self view _ used ∙ so_far-begun c.args.width c.args.base before (i + 1) items,
      )
    ])

pub loop-para-preserved : goal.loop-para-preserved
loop-para-preserved c =
    let before = c.args.self.now in
    let items = c.args.paragraphs.now in
    let i = c.loop-para.para-index in
    let p = c.para-item.result in
    let h = c.loop-para.invariant in
    let print = next-print c.args.width c.args.base before items i p p c.loop-para-test.true c.para-item.is c.loop-para.self h.view _ _ _ h.print c.in_ok-push_print.ensures.print in
    let view = next-view c.args.width c.args.base before items i p p c.loop-para-test.true c.para-item.is c.loop-para.self h.view _ c.in_ok-push_print.ensures.view in
    elim c.if-branch.branch [
      | then-branch w ↦ record {
        print = print;
        view = view;
        laid =
            counted-then c.args.width c.args.base before items i p p c.loop-para-test.true c.para-item.is c.loop-para.self h.view c.loop-para.anew c.if-branch.anew h.laid c.in_ok-push_print.field-0
            c.in_ok-push_print.ensures.laid w.if-branch.true w.anew-is;
        most = most-then c.loop-para.anew c.if-branch.anew i h.most w.anew-is;
      }
      | else-branch w ↦ record {
        print = print;
        view = view;
        laid =
            counted-else c.args.width c.args.base before items i p p c.loop-para-test.true c.para-item.is c.loop-para.self h.view c.loop-para.anew c.if-branch.anew h.laid c.in_ok-push_print.field-0
            c.in_ok-push_print.ensures.laid w.if-branch.false w.anew-is;
        most = most-else c.loop-para.anew c.if-branch.anew i h.most w.anew-is;
      }
    ]

pub returns-clause-print : goal.returns-clause-print
returns-clause-print c =
    c.loop-para.invariant.print
    ∙ ap (λ l. flat_map rc_slice_items c.args.parts.now.items ++ print_so_far c.args.width c.args.base c.args.self.now l) (take-whole c.args.paragraphs.now c.loop-para.para-index c.loop-para-test.false)

pub returns-clause-laid : goal.returns-clause-laid
returns-clause-laid c =
    c.loop-para.invariant.laid
    ∙ ap (laid_so_far c.args.width c.args.base c.args.self.now) (take-whole c.args.paragraphs.now c.loop-para.para-index c.loop-para-test.false)

pub returns-clause-view : goal.returns-clause-view
returns-clause-view c =
    c.loop-para.invariant.view
    ∙ ap (so_far c.args.width c.args.base c.args.self.now) (take-whole c.args.paragraphs.now c.loop-para.para-index c.loop-para-test.false)
