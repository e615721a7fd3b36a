-- What stays true in the loop of `place_run`.
use Rattle.std.proofs.Common.{◌≡◌, ◌+◌}
use Rattle.std.specs.Str.{chars, IsUtf8}
use Rattle.std.specs.Str.Iter.{chars_rest}
use Rattle.rga_tree.proofs.RunSteps.{IsUnderWay}
use Rattle.rga_tree.proofs.sequence.Sequence.place_run.Given as goal

abbrev pub invariant-loop-ch : goal.invariant-loop-ch
invariant-loop-ch g l = record {
  utf8 : IsUtf8 (chars_rest l.left);
  under_way : IsUnderWay (g.Self.Sequence.content l.fn.self) (g.Self.Sequence.content l.self) l.first (record { counter = l.counter + 1; site = l.first.site }) l.fn.parent l.parent
      (chars l.characters) (chars (chars_rest l.left)) (g.Self.Sequence.free l.fn.self) (g.Self.Sequence.free l.self);
  looked : g.Self.Sequence.looked l.self ≡ g.Self.Sequence.looked l.fn.self;
}
