-- The goals of `take_run` that are answered by hand.
use Rattle.std.proofs.Common.{◌≡◌, ◌≤◌, ◌+◌, sym, ap, subst, ◌∙◌, length, take, arith}
use Rattle.std.proofs.lemmas.List.{length-take-le, take-take}
use Rattle.desk_replica.specs.Merging.{with_operations}
use Rattle.desk_replica.specs.Taking.{AreTaken}
use Rattle.desk_replica.proofs.Admitting.{IsContent}
use Rattle.desk_replica.proofs.Desks.{desk_of}
use Rattle.desk_replica.proofs.FirstTurn.{held_within}
use Rattle.desk_replica.proofs.InFront.{run_taken, run_desk, run_of_all}
use Rattle.desk_replica.proofs.Replacing.{next-part}
use Rattle.desk_replica.proofs.replica.Replica.take_run.Goals as goal

pub place_in_front-run-requires-clause-few : goal.place_in_front-run-requires-clause-few
place_in_front-run-requires-clause-few g c =
    let few = held_within (g.S.Sequence.content c.self.inside.seq) c.self.inside.held.held in
    omega (arith, few, c.self.invariant.counted.kept_is, c.self.invariant.counted.limited)

pub place_in_front-run-requires-clause-greatest : goal.place_in_front-run-requires-clause-greatest
place_in_front-run-requires-clause-greatest g c = omega (arith, next-part (g.S.Sequence.content c.self.inside.seq) c.self.inside.held.held, c.self.invariant.counted.next_is)

pub invariant_of-self : goal.invariant_of-self
invariant_of-self g c =
    let t = g.S.Sequence.content c.self.inside.seq in
    let w = c.self.inside.held in
    let kept = c.self.inside.kept in
    let greatest = c.self.inside.greatest in
    let content : IsContent t = record { well = g.met.S.Sequence.well_formed c.self.inside.seq; tree = g.met.S.Sequence.is_tree c.self.inside.seq; only = g.met.S.Sequence.only_placed c.self.inside.seq } in
    let ops = c.args.ops.now in
    let most = c.min.result in
    let count = c.place_in_front-run.result in
    let placed = c.place_in_front-run.ensures in
    let u = g.S.Sequence.content c.place_in_front-run.new.seq in
    let long : length (take most ops) ≡ most = length-take-le most ops (omega (arith, c.min.ensures)) in
    let le : count ≤ most = omega (arith, placed.within, long) in
    let run = run_of_all t greatest ops most count le placed.run in
    let few : kept + count ≤ 1_000_000 = omega (arith, le, c.min.ensures, c.self.invariant.counted.limited) in
    let is : u ≡ with_operations t (take count ops) = placed.content ∙ ap (with_operations t) (take-take count most ops le) in
    run_desk t w kept greatest count ops content c.self.invariant.settled c.self.invariant.counted run few u (g.S.Sequence.free c.place_in_front-run.new.seq) c.self.inside.site c.place_in_front-run.new.spare is c.self.invariant.sited placed.paid

pub returns-clause-taken : goal.returns-clause-taken
returns-clause-taken g c =
    let t = g.S.Sequence.content c.self.inside.seq in
    let w = c.self.inside.held in
    let kept = c.self.inside.kept in
    let greatest = c.self.inside.greatest in
    let content : IsContent t = record { well = g.met.S.Sequence.well_formed c.self.inside.seq; tree = g.met.S.Sequence.is_tree c.self.inside.seq; only = g.met.S.Sequence.only_placed c.self.inside.seq } in
    let ops = c.args.ops.now in
    let most = c.min.result in
    let count = c.place_in_front-run.result in
    let placed = c.place_in_front-run.ensures in
    let u = g.S.Sequence.content c.place_in_front-run.new.seq in
    let long : length (take most ops) ≡ most = length-take-le most ops (omega (arith, c.min.ensures)) in
    let le : count ≤ most = omega (arith, placed.within, long) in
    let run = run_of_all t greatest ops most count le placed.run in
    let few : kept + count ≤ 1_000_000 = omega (arith, le, c.min.ensures, c.self.invariant.counted.limited) in
    let is : u ≡ with_operations t (take count ops) = placed.content ∙ ap (with_operations t) (take-take count most ops le) in
    subst (λ n. AreTaken c.args.self.now ops count (desk_of u w c.self.inside.site n)) (sym placed.spare)
    (run_taken t w kept greatest count ops content c.self.invariant.settled c.self.invariant.counted run few u c.self.inside.site c.self.inside.spare c.args.self.now (omega (arith, le, c.min.ensures)) is c.self.view_is)

pub returns-clause-limited : goal.returns-clause-limited
returns-clause-limited g c =
    let t = g.S.Sequence.content c.self.inside.seq in
    let w = c.self.inside.held in
    let kept = c.self.inside.kept in
    let greatest = c.self.inside.greatest in
    let content : IsContent t = record { well = g.met.S.Sequence.well_formed c.self.inside.seq; tree = g.met.S.Sequence.is_tree c.self.inside.seq; only = g.met.S.Sequence.only_placed c.self.inside.seq } in
    let ops = c.args.ops.now in
    let most = c.min.result in
    let count = c.place_in_front-run.result in
    let placed = c.place_in_front-run.ensures in
    let u = g.S.Sequence.content c.place_in_front-run.new.seq in
    let long : length (take most ops) ≡ most = length-take-le most ops (omega (arith, c.min.ensures)) in
    let le : count ≤ most = omega (arith, placed.within, long) in
    let run = run_of_all t greatest ops most count le placed.run in
    let few : kept + count ≤ 1_000_000 = omega (arith, le, c.min.ensures, c.self.invariant.counted.limited) in
    let is : u ≡ with_operations t (take count ops) = placed.content ∙ ap (with_operations t) (take-take count most ops le) in
    let after = run_desk t w kept greatest count ops content c.self.invariant.settled c.self.invariant.counted run few u (g.S.Sequence.free c.place_in_front-run.new.seq) c.self.inside.site c.place_in_front-run.new.spare is c.self.invariant.sited placed.paid in
    omega (arith, after.counted.kept_is, after.counted.limited)
