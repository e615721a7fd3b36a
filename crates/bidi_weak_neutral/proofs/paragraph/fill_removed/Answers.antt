-- The goals of `fill_removed` that are answered by hand.
use Rattle.std.proofs.Common.{arith, ℕ, List, ◌+◌, ◌<◌, ◌∙◌, ap₂, sym, take, drop, ◌++◌, length, None}
use Rattle.bidi_weak_neutral.specs.Levels.{kept_levels}
use Rattle.bidi_weak_neutral.proofs.Scan.{scan}
use Rattle.bidi_weak_neutral.proofs.Filling.{fill_at, fill_step, filled_levels-is, fill-kept, fill-removed}
use Rattle.bidi_weak_neutral.proofs.paragraph.fill_removed.Goals as goal
use Rattle.bidi_weak_neutral.proofs.paragraph.fill_removed.Goals.{then-is_some, else-is_some}

pub loop-i-init : goal.loop-i-init
loop-i-init c = sym (filled_levels-is c.args.paragraph_level (kept_levels c.args.places.now c.args.levels.now))

pub loop-i-preserved : goal.loop-i-preserved
loop-i-preserved c =
    let i = c.loop-i.i in
    let places = c.args.places.now in
    let levels = c.loop-i.levels in
    let in_places : c.loop-i.i < length c.args.places.now = c.loop-i-test.true in
    let in_levels : c.loop-i.i < length c.loop-i.levels = omega arith in
    let so_far = λ (l : List ℕ) (before : ℕ). take (i + 1) l ++ scan fill_at fill_step before (kept_levels (drop (i + 1) places) (drop (i + 1) l)) in
    elim c.if-is_some.branch [
      | then-is_some w ↦
          ap₂ so_far w.levels-is w.before-is
          ∙ fill-kept places levels _ i c.loop-i.before in_places in_levels None (sym c.is_some.ensures ∙ w.if-is_some.true) c.loop-i.invariant
      | else-is_some w ↦
          ap₂ so_far w.levels-is w.before-is
          ∙ fill-removed places levels _ i c.loop-i.before in_places in_levels None (sym c.is_some.ensures ∙ w.if-is_some.false) c.loop-i.invariant
    ]
