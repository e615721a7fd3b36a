-- Nothing is kept, and there is the room that was asked for.
use Rattle.std.proofs.Common.{◌∙◌, arith}
use Rattle.view_cache.proofs.Kept.{resized-empty, empty-kept, empty-nothing}
use Rattle.view_cache.proofs.kept_rows.KeptRows.keyed.Goals as goal
use Rattle.view_cache.proofs.kept_rows.KeptRows.keyed.Goals.{in-Some, in_default}

pub invariant_of-result : goal.invariant_of-result
invariant_of-result c =
    elim c.match-new.branch [
      | in-Some w ↦
          let is = w.kept-is ∙ resized-empty _ _ _ c.args.room c.in_ok-kept.ensures w.resize.ensures w.in-Some.ensures in
          empty-kept _ c.args.room c.args.key is c.requires.some
      | in_default w ↦ absurd (omega (arith, w.in_default.ensures))
    ]

pub returns : goal.returns
returns c =
    elim c.match-new.branch [
      | in-Some w ↦
          let is = w.kept-is ∙ resized-empty _ _ _ c.args.room c.in_ok-kept.ensures w.resize.ensures w.in-Some.ensures in
          empty-nothing _ c.args.room c.args.key is
      | in_default w ↦ absurd (omega (arith, w.in_default.ensures))
    ]
