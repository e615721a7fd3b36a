-- The goals of `put` that are answered by hand.
use Rattle.std.proofs.Common.{◌≤◌, ℕ, List, Option, None, Some, refl, arith, ap, subst, ◌∙◌, inl, inr}
use Rattle.std.specs.Prelude.{◌||◌}
use Rattle.std.specs.Io.KnownBytes.{Appends, Keeps}
use Rattle.std.proofs.lemmas.List.{length-take, take-take}
use Rattle.bg_types.proofs.stops.StopsSink.put.Goals as goal
use Rattle.std.proofs.lemmas.Bool.{or_parts}

pub put-requires-clause-some : goal.put-requires-clause-some
put-requires-clause-some g c =
    let some = c.args.self.now.takes_some in
    omega (arith, length-take c.min-most.result c.args.bytes.now, c.min.ensures, c.min-most.ensures)

pub put-requires-clause-working : goal.put-requires-clause-working
put-requires-clause-working g c = (or_parts c.args.self.now.stopped _ c.requires.working).1

kept_itself : (bytes : Option (List ℕ)) → Keeps bytes bytes
kept_itself None = tt
kept_itself (Some xs) = refl

pub returns-then-most-eq0 : goal.returns-then-most-eq0
returns-then-most-eq0 g c =
    let some = c.args.self.now.takes_some in
    record {
      taken = tt;
      lost = kept_itself (g.S.Sink.written c.args.self.now.sink);
      failed = refl;
      counted = tt;
      piece = refl;
      used_up = inl (omega (arith, c.min.ensures, c.min-most.ensures));
    }

pub returns-in_err-taken : goal.returns-in_err-taken
returns-in_err-taken g c =
    let none = c.from_residual.ensures in
    let running = (or_parts c.args.self.now.stopped _ c.requires.working).0 in
    let lost = c.in_err-taken.ensures in
    record {
      taken = rw none tt;
      lost = rw none lost.lost;
      failed = rw none (ap (λ b. b || g.S.Sink.has_failed c.put.new.self) running ∙ lost.failed);
      counted = rw none tt;
      piece = refl;
      used_up = rw none (inr lost.failed);
    }

pub returns : goal.returns
returns g c =
    let n = c.in_ok-taken.taken in
    let most = c.min-most.result in
    let bytes = c.args.bytes.now in
    let running = (or_parts c.args.self.now.stopped _ c.requires.working).0 in
    let taken = c.in_ok-taken.ensures.taken in
    let long = length-take most bytes in
    let few : n ≤ most = omega (arith, taken.1, long) in
    record {
      taken = (taken.0, omega (arith, taken.1, long), subst (Appends (g.S.Sink.written c.args.self.now.sink) (g.S.Sink.written c.put.new.self)) (take-take n most bytes few) taken.2);
      lost = tt;
      failed = ap (λ b. b || g.S.Sink.has_failed c.put.new.self) running ∙ c.in_ok-taken.ensures.failed;
      counted = (omega (arith, few, c.min.ensures, c.min-most.ensures), omega (arith, few, c.min-most.ensures));
      piece = refl;
      used_up = tt;
    }
