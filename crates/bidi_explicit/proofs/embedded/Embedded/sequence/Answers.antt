-- What holds of all level runs holds of those of a sequence.
use Rattle.std.proofs.Common.{ap, subst, slice_range}
use Rattle.std.specs.List.{All}
use Rattle.std.proofs.lemmas.List.Elements.{All-drop, All-same, All-take}
use Rattle.bidi_explicit.specs.Embedding.{Embedding}
use Rattle.bidi_explicit.specs.Extents.{IsKept}
use Rattle.bidi_explicit.specs.LevelRuns.{HasPlace, run_places}
use Rattle.bidi_explicit.proofs.Runs.{All-part}
use Rattle.bidi_explicit.proofs.embedded.Embedded.sequence.Goals as goal

pub invariant_of-result : goal.invariant_of-result
invariant_of-result c =
    All-take HasPlace _ _ (All-drop HasPlace _ c.deref.result.now
    (All-same HasPlace c.deref.result.now c.self.inside.runs.items c.deref.ensures.value c.self.invariant.some))

pub returns-clause-kept : goal.returns-clause-kept
returns-clause-kept c =
    subst (λ ps. All (IsKept ps) (run_places (slice_range c.deref.result.now c.index-extent.result.now.start c.index-extent.result.now.end)))
    (ap (λ (e : Embedding). e.places) c.self.view_is)
    (All-part (IsKept c.self.inside.places.items) c.deref.result.now c.index-extent.result.now.start c.index-extent.result.now.end
    (All-same (IsKept c.self.inside.places.items) (run_places c.deref.result.now) (run_places c.self.inside.runs.items) (ap run_places c.deref.ensures.value) c.self.invariant.kept))
