-- The goals of `marked` that are answered by hand.
use Rattle.std.proofs.Common.{◌≡◌, refl, Bool, true, false}
use Rattle.std.specs.Prelude.{not}
use Rattle.bg_types.specs.declared.class.Bidi.TheVariants.{Nsm}
use Rattle.bidi_weak_neutral.specs.Classes.{is}
use Rattle.bidi_weak_neutral.proofs.weak.marked.Goals as goal

not-false : (b : Bool) → false ≡ not b → b ≡ true
not-false true h = refl
not-false false h = h

pub returns-then-is_isolate_control : goal.returns-then-is_isolate_control
returns-then-is_isolate_control c =
    rw (not-false (is c.args.class Nsm) c.if-ne.ensures, ← c.is_isolate_control.ensures, c.if-is_isolate_control.true) refl

pub returns-else-is_isolate_control : goal.returns-else-is_isolate_control
returns-else-is_isolate_control c =
    rw (not-false (is c.args.class Nsm) c.if-ne.ensures, ← c.is_isolate_control.ensures, c.if-is_isolate_control.false) refl
