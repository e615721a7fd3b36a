-- The scan finds the level.
use Rattle.std.proofs.Common.{◌≡◌, ◌∙◌, sym, ap, None}
use Rattle.unicode_tables.specs.Tables.{bidi_of}
use Rattle.bidi_explicit.specs.Strong.{strong_level, depth_behind}
use Rattle.bidi_explicit.proofs.Strongest.{IsScanned-start, IsScanned-end, IsScanned-strong, IsScanned-on}
use Rattle.bidi_explicit.proofs.level.first_strong_level.Goals as goal
use Rattle.bidi_explicit.proofs.level.first_strong_level.Goals.{then-depth-eq0+in_default-strong_level, else-depth-eq0}

pub loop-c-init : goal.loop-c-init
loop-c-init c = rw c.chars-chars.ensures.rest (IsScanned-start c.args.tables.now c.args.text.now c.utf8.text)

pub returns-in-Some-strong_level-clause-level : goal.returns-in-Some-strong_level-clause-level
returns-in-Some-strong_level-clause-level c =
    IsScanned-strong _ _ _ _ c.loop-c.invariant c.in-Some.c _ c.in-Some.ensures.steps.0 c.in-Some-strong_level.level c.if-depth-eq0.true
    (ap strong_level (sym c.bidi-class.ensures) ∙ sym c.strong_level.ensures ∙ c.in-Some-strong_level.is)

pub loop-c-preserved : goal.loop-c-preserved
loop-c-preserved c =
    let weak : c.loop-c.depth ≡ 0 → strong_level (bidi_of c.args.tables.now c.in-Some.c) ≡ None =
    elim c.if-depth-eq0.branch [
      | then-depth-eq0+in_default-strong_level w ↦
          (λ _. ap strong_level (sym c.bidi-class.ensures) ∙ sym w.strong_level.ensures ∙ w.in_default-strong_level.is)
      | else-depth-eq0 w ↦ (λ none. absurd (w.if-depth-eq0.false none))
    ] in
    IsScanned-on _ _ _ _ c.loop-c.invariant c.in-Some.c _ c.in-Some.ensures.steps.0 c.depth_behind-depth.result
    (c.depth_behind-depth.ensures ∙ ap (depth_behind c.loop-c.depth) c.bidi-class.ensures) weak

pub returns-clause-level : goal.returns-clause-level
returns-clause-level c = IsScanned-end _ _ _ _ c.in_default.ensures.steps.0.0 c.loop-c.invariant
