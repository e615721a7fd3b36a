-- The goals of `put_back` that are answered by hand.
use Rattle.std.proofs.Common.{ℕ, List, Option, ◌+◌, ◌<◌, ◌≤◌, ◌∙◌, length, get_or, drop, ap, ap₂, sym, subst}
use Rattle.bidi_explicit.specs.declared.kept.Kept.{Kept}
use Rattle.bidi_explicit.proofs.Interface.{is_kept-within}
use Rattle.bidi_weak_neutral.specs.Levels.{levels_at, put_back, sequence_levels}
use Rattle.bidi_weak_neutral.proofs.PuttingBack.{drop-slice_get, All-slice_get}
use Rattle.bidi_weak_neutral.proofs.paragraph.put_back.Goals as goal

pub sequence_levels-requires-clause-level : goal.sequence_levels-requires-clause-level
sequence_levels-requires-clause-level c =
    All-slice_get (λ s. s.level ≤ 125) c.args.embedded.now.sequences c.loop-number.number c.sequence-sequence.result c.sequence-sequence.ensures.value c.requires.depth

pub sequence_levels-requires-clause-points : goal.sequence_levels-requires-clause-points
sequence_levels-requires-clause-points c = λ k d lt.
    subst (λ n. get_or c.sequence-sequence.result.places k d < n) (sym c.requires.points) (is_kept-within c.args.embedded.now.places (get_or c.sequence-sequence.result.places k d) (c.sequence-sequence.ensures.kept k d lt))

pub sequence_levels-requires-clause-kept : goal.sequence_levels-requires-clause-kept
sequence_levels-requires-clause-kept c = λ k d lt.
    subst (λ (ps : List (Option Kept)). get_or c.sequence-sequence.result.places k d < length ps) (sym c.places-places.ensures)
    (is_kept-within c.args.embedded.now.places (get_or c.sequence-sequence.result.places k d) (c.sequence-sequence.ensures.kept k d lt))

pub put_at_runs-requires-clause-inside : goal.put_at_runs-requires-clause-inside
put_at_runs-requires-clause-inside c =
    subst (λ (l : List ℕ). (k d : ℕ) → k < length l → get_or l k d < length c.loop-number.levels) (sym c.runs.ensures.places)
    (λ k d lt. subst (λ n. get_or c.sequence-sequence.result.places k d < n) (sym (c.loop-number.auto.levels ∙ c.requires.levels)) (is_kept-within c.args.embedded.now.places (get_or c.sequence-sequence.result.places k d) (c.sequence-sequence.ensures.kept k d lt)))

pub put_at_runs-requires-clause-own : goal.put_at_runs-requires-clause-own
put_at_runs-requires-clause-own c = ap length c.deref.ensures.value ∙ c.in_ok-sequence_levels.ensures.one_each ∙ ap length (sym c.runs.ensures.places)

pub loop-number-preserved : goal.loop-number-preserved
loop-number-preserved c =
    let e = c.args.embedded.now in
    let s = c.sequence-sequence.result in
    let step = drop-slice_get e.sequences c.loop-number.number s c.sequence-sequence.ensures.value in
    ap (λ levels. put_back c.args.tables.now c.args.points.now e.places levels (drop (c.loop-number.number + 1) e.sequences))
    (c.put_at_runs.ensures
    ∙ ap₂ (λ ps own. levels_at c.loop-number.levels ps own) c.runs.ensures.places
    (c.deref.ensures.value ∙ c.in_ok-sequence_levels.ensures.levels
    ∙ ap (λ p. sequence_levels c.args.tables.now c.args.points.now p s) c.places-places.ensures))
    ∙ ap (put_back c.args.tables.now c.args.points.now e.places c.loop-number.levels) (sym step)
    ∙ c.loop-number.invariant
