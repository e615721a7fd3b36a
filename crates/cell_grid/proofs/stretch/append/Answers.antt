-- One piece after the other, from the last.
use Rattle.std.proofs.Common.{◌≡◌, ◌+◌, ◌-◌, ◌++◌, ◌∷◌, [], length, drop, get_or, reverse, refl, sym, ap, ◌∙◌, arith, append_assoc}
use Rattle.std.proofs.lemmas.List.{append-nil, drop_all, reverse-append}
use Rattle.cell_grid.specs.Pieces.{no_piece}
use Rattle.cell_grid.proofs.Steps.{drop-next}
use Rattle.cell_grid.proofs.stretch.append.Goals as goal

pub loop-number-init : goal.loop-number-init
loop-number-init c =
    let pieces = c.args.pieces.now in
    sym (append-nil c.args.runs.now.items) ∙ ap (λ l. c.args.runs.now.items ++ reverse l) (sym (drop_all (length pieces) pieces (omega arith)))

pub loop-number-preserved : goal.loop-number-preserved
loop-number-preserved c =
    let pieces = c.args.pieces.now in
    let k = c.loop-number.number - 1 in
    let up : c.loop-number.number ≡ k + 1 = omega arith in
    let within = c.loop-number.auto.number in
    let x = get_or pieces k no_piece in
    c.in_ok-push.ensures.items
    ∙ ap (λ l. l ++ x ∷ []) (c.loop-number.invariant ∙ ap (λ n. c.args.runs.now.items ++ reverse (drop n pieces)) up)
    ∙ append_assoc c.args.runs.now.items (reverse (drop (k + 1) pieces)) (x ∷ [])
    ∙ ap (λ l. c.args.runs.now.items ++ l) (sym (ap reverse (drop-next pieces k x no_piece (omega arith) refl) ∙ reverse-append (x ∷ []) (drop (k + 1) pieces)))
