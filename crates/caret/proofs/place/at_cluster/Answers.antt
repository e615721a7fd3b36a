-- The goals of `at_cluster` that are answered by hand.
use Rattle.std.proofs.Common.{◌≡◌, ◌+◌, cond, refl, ap, sym, ◌∙◌}
use Rattle.reorder.specs.VisualList.{is_odd}
use Rattle.caret.proofs.CaretAt.{at_cluster-found}
use Rattle.caret.proofs.place.at_cluster.Goals as goal
use Rattle.caret.proofs.place.at_cluster.Goals.{then-is_odd, else-is_odd}

pub returns-after-is_odd-clause-caret : goal.returns-after-is_odd-clause-caret
returns-after-is_odd-clause-caret c =
    let gap = c.in-Some.gap in
    let chosen : c.if-is_odd.result ≡ cond (is_odd c.in-Some.entry.level) (gap + 1) gap =
    elim c.if-is_odd.branch [
      | then-is_odd w ↦ w.result-is ∙ ap (λ b. cond b (gap + 1) gap) (sym w.if-is_odd.true ∙ c.is_odd.ensures)
      | else-is_odd w ↦ w.result-is ∙ ap (λ b. cond b (gap + 1) gap) (sym w.if-is_odd.false ∙ c.is_odd.ensures)
    ] in
    rw chosen (sym (at_cluster-found c.args.place c.args.number c.args.row.now c.args.row.now.entries gap c.in-Some.entry refl c.in-Some.ensures.entry))
