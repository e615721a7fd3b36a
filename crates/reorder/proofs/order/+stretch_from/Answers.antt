-- The goals of `+stretch_from` that are answered by hand.
use Rattle.std.proofs.Common.{◌+◌, arith, ap, ◌∙◌, get_or}
use Rattle.reorder.proofs.Stretches.{IsLater, later-moved, later-single, later-upper, stretch-last, stretch-start, stretch-step}
use Rattle.reorder.proofs.order.+stretch_from.Goals as goal
use Rattle.reorder.proofs.order.+stretch_from.Goals.{then-level-levels, else-level-levels}

pub loop-end-init : goal.loop-end-init
loop-end-init t c =
    stretch-start c.args.levels.now c.args.links.now c.args.floor c.args.start c.of-piece.result.first c.of-piece.result.last
    c.requires.start c.requires.floor c.of-piece.ensures.first c.of-piece.ensures.last

pub then-piece-requires-clause-own : goal.then-piece-requires-clause-own
then-piece-requires-clause-own t c =
    let h = c.loop-end.invariant in
    let at = stretch-last c.args.levels.now c.loop-end.links c.loop-end.piece.first c.loop-end.piece.last c.args.start c.loop-end.end h.begun h.within h.linked in
    omega (arith, at.1, h.within, c.requires.links)

pub then-piece-requires-clause-later : goal.then-piece-requires-clause-later
then-piece-requires-clause-later t c =
    elim c.if-level-levels.branch [
      | then-level-levels w ↦
          let h = w.stretch_from-upper.ensures in
          let at = stretch-last c.args.levels.now w.stretch_from-upper.new.links w.stretch_from-upper.result.piece.first w.stretch_from-upper.result.piece.last
          c.loop-end.end w.stretch_from-upper.result.end h.begun h.within h.linked in
          omega (arith, at.1, h.within, c.requires.links, ap (λ p. p.last) w.later-is)
      | else-level-levels w ↦ omega (arith, c.loop-end-test.true, c.requires.links, ap (λ p. p.last) w.later-is, w.of-later.ensures.last)
    ]

pub loop-end-preserved : goal.loop-end-preserved
loop-end-preserved t c =
    let levels = c.args.levels.now in
    let h = c.loop-end.invariant in
    let later : IsLater c.args.levels.now c.loop-end.links c.if-level-levels.links c.args.floor c.loop-end.level c.if-level-levels.level
    c.loop-end.end c.if-level-levels.end c.if-level-levels.later.first c.if-level-levels.later.last =
    elim c.if-level-levels.branch [
      | then-level-levels w ↦
          let r = w.stretch_from-upper.ensures in
          let p = w.stretch_from-upper.result in
          later-moved c.args.levels.now c.loop-end.links w.stretch_from-upper.new.links c.if-level-levels.links c.args.floor c.loop-end.level c.loop-end.level c.if-level-levels.level
          c.loop-end.end p.end c.if-level-levels.end p.piece.first c.if-level-levels.later.first p.piece.last c.if-level-levels.later.last
          w.links-is w.level-is w.end-is (ap (λ x. x.first) w.later-is) (ap (λ x. x.last) w.later-is)
          (later-upper c.args.levels.now c.loop-end.links w.stretch_from-upper.new.links c.args.floor c.loop-end.level c.loop-end.end p.end p.piece.first p.piece.last
          r.begun r.within h.above r.high r.whole (h.tip c.loop-end-test.true w.if-level-levels.true) r.linked r.before)
      | else-level-levels w ↦
          later-moved c.args.levels.now c.loop-end.links c.loop-end.links c.if-level-levels.links c.args.floor c.loop-end.level (get_or c.args.levels.now c.loop-end.end 0) c.if-level-levels.level
          c.loop-end.end (c.loop-end.end + 1) c.if-level-levels.end c.loop-end.end c.if-level-levels.later.first c.loop-end.end c.if-level-levels.later.last
          w.links-is w.level-is w.end-is
          (ap (λ x. x.first) w.later-is ∙ w.of-later.ensures.first) (ap (λ x. x.last) w.later-is ∙ w.of-later.ensures.last)
          (later-single c.args.levels.now c.loop-end.links c.args.floor c.loop-end.level c.loop-end.end
          c.loop-end-test.true c.if-floor-levels.true w.if-level-levels.false)
    ] in
    stretch-step c.args.levels.now c.args.links.now c.loop-end.links c.if-level-levels.links c.then-piece.new.links
    c.args.start c.loop-end.end c.if-level-levels.end c.args.floor c.loop-end.level c.if-level-levels.level
    c.loop-end.piece.first c.loop-end.piece.last c.if-level-levels.later.first c.if-level-levels.later.last c.then-piece.result.first c.then-piece.result.last
    (c.if-level-levels.auto.links ∙ c.loop-end.auto.links ∙ c.requires.links) h later
    c.then-piece.ensures.links c.then-piece.ensures.first c.then-piece.ensures.last
