-- The goals of `encode_file` that are answered by hand.
use Rattle.std.proofs.Common.{arith, ap, subst, ◌∙◌, sym, length, ℕ, List}
use Rattle.std.specs.List.{AllByRecursion}
use Rattle.std.proofs.lemmas.List.{take_all}
use Rattle.bg_types.specs.WellFormed.{IsWellFormed}
use Rattle.op_codec.specs.Spelling.{spelling}
use Rattle.op_codec.proofs.Gathered.{spelling_one}
use Rattle.op_codec.proofs.Sizes.{length-spelling-take}
use Rattle.op_codec.proofs.encode.encode_file.Goals as goal

pub unwrap-requires-in-loop-op : goal.unwrap-requires-in-loop-op
unwrap-requires-in-loop-op c =
    let next = length-spelling-take c.args.ops.now c.loop-op.op-index c.op-item.result c.loop-op-test.true c.op-item.is in
    let kept = c.loop-op.invariant in
    c.encode_op.ensures.room (omega (arith, next, c.loop-op.file.ok, kept.room, ap (λ (s : List ℕ). length s) kept.written))

pub returns-clause-spelled : goal.returns-clause-spelled
returns-clause-spelled c =
    let all = take_all c.loop-op.op-index c.args.ops.now (omega (arith, c.loop-op-test.false)) in
    record {
      bytes = c.loop-op.invariant.written ∙ ap spelling all ∙ sym (spelling_one c.args.ops.now);
      well_formed = subst (AllByRecursion IsWellFormed) all c.loop-op.invariant.well_formed;
    }

pub returns-clause-frames : goal.returns-clause-frames
returns-clause-frames c = c.loop-op.invariant.written ∙ ap spelling (take_all c.loop-op.op-index c.args.ops.now (omega (arith, c.loop-op-test.false)))
