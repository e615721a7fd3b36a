-- The goals of `place_in_front` that are answered by hand.
use Rattle.std.proofs.Common.{◌≡◌, ◌+◌, List, ℕ, sym, ap, ◌∙◌, length, take, arith}
use Rattle.std.specs.Str.{chars}
use Rattle.std.proofs.lemmas.List.{length-take-le}
use Rattle.bg_types.specs.OperationSet.{next}
use Rattle.desk_replica.specs.Taking.{IsRunInFront}
use Rattle.desk_replica.proofs.InFront.{nothing_in_front, run_of_all, counters_fit}
use Rattle.desk_replica.proofs.Stretches.{newest_new}
use Rattle.desk_replica.proofs.run.place_in_front.Goals as goal

pub returns-in_default-clause-run : goal.returns-in_default-clause-run
returns-in_default-clause-run g c = nothing_in_front (g.S.Sequence.content c.args.seq.now) c.args.greatest c.args.ops.now

pub returns-in_default-view-clause-run : goal.returns-in_default-view-clause-run
returns-in_default-view-clause-run g c = nothing_in_front (g.S.Sequence.content c.args.seq.now) c.args.greatest c.args.ops.now

pub returns-then-counter-greatest-clause-run : goal.returns-then-counter-greatest-clause-run
returns-then-counter-greatest-clause-run g c = nothing_in_front (g.S.Sequence.content c.args.seq.now) c.args.greatest c.args.ops.now

pub returns-then-is_err-clause-run : goal.returns-then-is_err-clause-run
returns-then-is_err-clause-run g c = nothing_in_front (g.S.Sequence.content c.args.seq.now) c.args.greatest c.args.ops.now

pub place_run-requires-clause-new : goal.place_run-requires-clause-new
place_run-requires-clause-new g c =
    newest_new (g.S.Sequence.content c.pay_for_typed.new.seq) c.in-Insert.id (length (chars c.from_utf8_unchecked-characters.result.now))
    (omega (arith, ap next c.pay_for_typed.ensures.content, c.requires.greatest, c.if-counter-greatest.false, c.counter.ensures.value))

pub place_run-requires-clause-counters : goal.place_run-requires-clause-counters
place_run-requires-clause-counters g c =
    let t = g.S.Sequence.content c.args.seq.now in
    let ops = take c.min.result c.args.ops.now in
    let is : c.in-Insert.id.counter ≡ c.args.greatest + 1 = omega (arith, c.if-counter-greatest.false, c.counter.ensures.value, c.counter.ensures.identifier.counter_positive) in
    let run : IsRunInFront t c.args.greatest ops c.gather-count.result.0 = record {
      first = c.in-Insert.id;
      parent = c.in-Insert.parent;
      characters = chars (take c.gather-count.result.1 c.gather-count.new.bytes);
      many = c.gather-count.ensures.count;
      typed = c.gather-count.ensures.run;
      next = is;
      stands = sym c.stands.ensures ∙ c.if-not-stands.false;
      well_formed = c.gather-count.ensures.well_formed;
    } in
    let fits = counters_fit t c.args.greatest ops c.gather-count.result.0 (omega (arith, is, c.counter.ensures.identifier.counter_fits)) run in
    let many = ap (λ (bs : List ℕ). length (chars bs)) c.from_utf8_unchecked-characters.ensures ∙ c.gather-count.ensures.count in
    omega (arith, fits, many, is)

pub returns-clause-run : goal.returns-clause-run
returns-clause-run g c =
    let t = g.S.Sequence.content c.args.seq.now in
    let is : c.in-Insert.id.counter ≡ c.args.greatest + 1 = omega (arith, c.if-counter-greatest.false, c.counter.ensures.value, c.counter.ensures.identifier.counter_positive) in
    let run : IsRunInFront t c.args.greatest (take c.min.result c.args.ops.now) c.gather-count.result.0 = record {
      first = c.in-Insert.id;
      parent = c.in-Insert.parent;
      characters = chars (take c.gather-count.result.1 c.gather-count.new.bytes);
      many = c.gather-count.ensures.count;
      typed = c.gather-count.ensures.run;
      next = is;
      stands = sym c.stands.ensures ∙ c.if-not-stands.false;
      well_formed = c.gather-count.ensures.well_formed;
    } in
    let long = length-take-le c.min.result c.args.ops.now (omega (arith, c.min.ensures)) in
    run_of_all t c.args.greatest c.args.ops.now c.min.result c.gather-count.result.0 (omega (arith, c.gather-count.ensures.within, long)) run

pub returns-clause-counters : goal.returns-clause-counters
returns-clause-counters g c =
    let t = g.S.Sequence.content c.args.seq.now in
    let ops = take c.min.result c.args.ops.now in
    let is : c.in-Insert.id.counter ≡ c.args.greatest + 1 = omega (arith, c.if-counter-greatest.false, c.counter.ensures.value, c.counter.ensures.identifier.counter_positive) in
    let run : IsRunInFront t c.args.greatest ops c.gather-count.result.0 = record {
      first = c.in-Insert.id;
      parent = c.in-Insert.parent;
      characters = chars (take c.gather-count.result.1 c.gather-count.new.bytes);
      many = c.gather-count.ensures.count;
      typed = c.gather-count.ensures.run;
      next = is;
      stands = sym c.stands.ensures ∙ c.if-not-stands.false;
      well_formed = c.gather-count.ensures.well_formed;
    } in
    counters_fit t c.args.greatest ops c.gather-count.result.0 (omega (arith, is, c.counter.ensures.identifier.counter_fits)) run
