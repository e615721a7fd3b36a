-- The goals of `note` that are answered by hand.
use Rattle.std.proofs.Common.{◌≡◌, ℕ, ◌<◌, ◌/◌, ◌∙◌, true, sym, ap, get_or, [], arith}
use Rattle.rga_runs.specs.Blocks.{none_below}
use Rattle.rga_runs.proofs.Neighbours.{bounds-note, none-lesser, none-lesser_other}
use Rattle.rga_runs.proofs.bounds.note.Goals.{then-p-eq0, else-p-eq0}
use Rattle.rga_runs.proofs.bounds.note.Goals as goal

pub returns-after-p-eq0-clause-bounds : goal.returns-after-p-eq0-clause-bounds
returns-after-p-eq0-clause-bounds c = λ xs low bounds.
    let q = c.args.p in
    let ms = c.args.bounds.now in
    let here : none_below c.if-p-eq0.bounds (get_or xs q []) ≡ true = elim c.if-p-eq0.branch [
      | then-p-eq0 w ↦ ap (λ m. none_below m (get_or xs q [])) w.bounds-is ∙ low
      | else-p-eq0 w ↦ ap (λ m. none_below m (get_or xs q [])) (w.bounds-is ∙ w.lesser.ensures) ∙ none-lesser_other c.args.least w.index-bounds-g.result (get_or xs q []) low
    ] in
    let before : (p : ℕ) → p < q → p / 32 ≡ q / 32 → none_below c.if-p-eq0.bounds (get_or xs p []) ≡ true = λ p less same. elim c.if-p-eq0.branch [
      | then-p-eq0 w ↦ absurd (omega (arith, w.if-p-eq0.true, less, same))
      | else-p-eq0 w ↦ ap (λ m. none_below m (get_or xs p [])) (w.bounds-is ∙ w.lesser.ensures)
          ∙ none-lesser c.args.least w.index-bounds-g.result (get_or xs p [])
          (ap (λ m. none_below m (get_or xs p [])) (w.index-bounds-g.is ∙ ap (λ g. get_or ms g w.index-bounds-g.result) (sym same)) ∙ bounds p w.index-bounds-g.result less (omega (arith, same, c.if-g-bounds.true)))
    ] in
    bounds-note ms xs q c.if-p-eq0.bounds c.if-g-bounds.true here before bounds
