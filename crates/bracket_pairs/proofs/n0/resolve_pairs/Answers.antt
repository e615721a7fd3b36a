-- The goals of `resolve_pairs` that are answered by hand.
use Rattle.std.proofs.Common.{◌∙◌, sym, length, arith}
use Rattle.bracket_pairs.proofs.PairSteps.{resolved-same, resolved-more, resolved-all, order-at, order-weaker}
use Rattle.bracket_pairs.proofs.n0.resolve_pairs.Goals as goal
use Rattle.bracket_pairs.proofs.n0.resolve_pairs.Goals.{in-Some, in_default}

pub slice_bounds-last_strong-end : goal.slice_bounds-last_strong-end
slice_bounds-last_strong-end c =
    let at = order-at c.loop-opening.from (length c.args.types.now) c.args.openings.now c.loop-opening.opening-index _ c.loop-opening-test.true c.loop-opening.invariant.order in
    let closed = at.1 c.in-Some.closing c.in-Some.is in
    let before = closed.0 in
    let within = closed.1 in
    let long = c.loop-opening.invariant.long in
    omega arith

pub resolve_pair-requires-clause-same : goal.resolve_pair-requires-clause-same
resolve_pair-requires-clause-same c = c.requires.same ∙ sym c.loop-opening.invariant.long

pub resolve_pair-requires-clause-within : goal.resolve_pair-requires-clause-within
resolve_pair-requires-clause-within c =
    let at = order-at c.loop-opening.from (length c.args.types.now) c.args.openings.now c.loop-opening.opening-index _ c.loop-opening-test.true c.loop-opening.invariant.order in
    let within = (at.1 c.in-Some.closing c.in-Some.is).1 in
    let long = c.loop-opening.invariant.long in
    omega arith

pub loop-opening-preserved : goal.loop-opening-preserved
loop-opening-preserved c =
    let openings = c.args.openings.now in
    let k = c.loop-opening.opening-index in
    let at = order-at c.loop-opening.from (length c.args.types.now) openings k _ c.loop-opening-test.true c.loop-opening.invariant.order in
    elim c.match-opening.branch [
      | in-Some w ↦
          let closed = at.1 w.in-Some.closing w.in-Some.is in
          record {
            pairs = rw (w.types-is, w.from-is, w.before-is)
                (resolved-more c.args.embedding c.args.sos openings c.args.before_w1.now c.args.types.now k c.loop-opening.from c.loop-opening.before c.loop-opening.types
                c.loop-opening.invariant.pairs _ c.loop-opening-test.true w.in-Some.closing w.resolve_pair.new.types w.last_strong-before.result w.in-Some.is
                at.0 closed.0 (let within = closed.1 in let long = c.loop-opening.invariant.long in omega arith) w.last_strong-before.ensures w.resolve_pair.ensures.types);
            order = rw w.from-is at.2;
            long = rw w.types-is (w.resolve_pair.auto.types ∙ c.loop-opening.invariant.long);
            run = rw (w.types-is, w.run-is) w.resolve_pair.ensures.run;
          }
      | in_default w ↦ record {
        pairs = rw (w.types-is, w.from-is, w.before-is)
            (resolved-same c.args.embedding c.args.sos openings c.args.before_w1.now c.args.types.now k c.loop-opening.from c.loop-opening.before c.loop-opening.types
            c.loop-opening.invariant.pairs _ c.loop-opening-test.true w.in_default.is);
        order = rw w.from-is (order-weaker _ _ _ _ at.0 at.2);
        long = rw w.types-is c.loop-opening.invariant.long;
        run = rw (w.types-is, w.run-is) c.loop-opening.invariant.run;
      }
    ]

pub returns : goal.returns
returns c = resolved-all _ _ _ _ _ _ _ _ _ c.loop-opening.invariant.pairs (omega arith)
