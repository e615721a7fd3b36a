-- The goals of `least_of` that are answered by hand.
use Rattle.std.proofs.Common.{◌≡◌, ◌+◌, ◌∙◌, true, sym, ap, subst, take}
use Rattle.std.specs.List.{list_any}
use Rattle.std.specs.Ordering.{is_lt}
use Rattle.bg_types.specs.Identifier.{Identifier, id_cmp, same_id}
use Rattle.rga_sequence.specs.Blocks.{none_below}
use Rattle.rga_sequence.proofs.Least.{least_lower, least_stays}
use Rattle.rga_sequence.proofs.block.least_of.Goals.{then-is_below_at, else-is_below_at}
use Rattle.rga_sequence.proofs.block.least_of.Goals as goal

pub loop-e-preserved : goal.loop-e-preserved
loop-e-preserved c =
    let row = c.args.row.now in
    let i = c.loop-e.invariant in
    let holds : Identifier → Type 0 = λ m. (none_below m (take (c.loop-e.e-index + 1) row) ≡ true) × (list_any (λ e. same_id m e.id) row ≡ true) in
    let test : is_lt (id_cmp c.e-item.result.id c.loop-e.least) ≡ c.is_below_at.result = sym c.is_below_at.ensures in
    let both : holds c.if-is_below_at.least = elim c.if-is_below_at.branch [
      | then-is_below_at w ↦ subst holds (sym w.least-is) (least_lower row c.loop-e.e-index c.loop-e.least c.e-item.result c.loop-e-test.true c.e-item.is i.below (test ∙ w.if-is_below_at.true))
      | else-is_below_at w ↦ subst holds (sym w.least-is) (least_stays row c.loop-e.e-index c.loop-e.least c.e-item.result c.loop-e-test.true c.e-item.is i.below (test ∙ w.if-is_below_at.false), i.there)
    ] in
    let same : c.if-is_below_at.counter ≡ c.if-is_below_at.least.counter = elim c.if-is_below_at.branch [
      | then-is_below_at w ↦ w.counter-is ∙ w.counter-counter-then-is_below_at.ensures.value ∙ ap (λ (m : Identifier). m.counter) (sym w.least-is)
      | else-is_below_at w ↦ w.counter-is ∙ i.counter ∙ ap (λ (m : Identifier). m.counter) (sym w.least-is)
    ] in
    record { below = both.0; there = both.1; counter = same }
