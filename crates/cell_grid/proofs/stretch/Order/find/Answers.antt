-- One stretch more.
use Rattle.std.proofs.Common.{◌++◌, ◌∷◌, [], map, sym, ap, refl, ◌∙◌}
use Rattle.std.proofs.lemmas.List.{map-append}
use Rattle.cell_grid.specs.declared.stretch.Stretch.{Stretch}
use Rattle.cell_grid.specs.Pieces.{piece_at}
use Rattle.cell_grid.proofs.Stretches.{so-far-start, so-far-on, so-far-all}
use Rattle.cell_grid.proofs.stretch.Order.find.Goals as goal

pub loop-first-init : goal.loop-first-init
loop-first-init c = record {
  far = so-far-start c.args.pieces.now c.clear.new.self.items c.clear.ensures.items;
  levels = c.clear-2.ensures.items ∙ sym (ap (map (λ (s : Stretch). s.level)) c.clear.ensures.items);
}

pub loop-first-preserved : goal.loop-first-preserved
loop-first-preserved c =
    let pieces = c.args.pieces.now in
    let end = c.level_end-end.ensures in
    let some = end.some in
    let within = end.within in
    let far = c.loop-first.invariant.far in
    let all = c.requires in
    let s : Stretch = record { first = c.loop-first.first; end = c.level_end-end.result; level = (piece_at c.args.pieces.now c.loop-first.first).level } in
    record {
      far = so-far-on pieces c.loop-first.first c.loop-first.self.stretches.items far s refl (record { some = end.some; within = end.within }) end.level c.push.new.self.items c.in_ok-push.ensures.items;
      levels =
          c.in_ok-push-2.ensures.items ∙ ap (λ l. l ++ s.level ∷ []) c.loop-first.invariant.levels
          ∙ sym (ap (map (λ (s : Stretch). s.level)) c.in_ok-push.ensures.items ∙ map-append (λ (s : Stretch). s.level) c.loop-first.self.stretches.items (s ∷ []));
    }

pub returns-clause-stretches : goal.returns-clause-stretches
returns-clause-stretches c = so-far-all c.args.pieces.now c.loop-first.first c.loop-first.self.stretches.items c.loop-first-test.false c.loop-first.invariant.far

pub returns-clause-levels : goal.returns-clause-levels
returns-clause-levels c = c.loop-first.invariant.levels
