-- From the first cluster of the first run to the last one of the last.
use Rattle.std.proofs.Common.{◌≡◌, ◌-◌, length, take, drop, ap, sym, ◌∙◌, arith}
use Rattle.std.proofs.lemmas.Nat.{mul-le}
use Rattle.std.proofs.lemmas.List.Elements.{All-head}
use Rattle.cell_grid.specs.Parts.{all_spans, IsWithin, left_of}
use Rattle.cell_grid.specs.Spans.{extent}
use Rattle.cell_grid.proofs.Cutting.{passed-then, length-passed, extent-taken}
use Rattle.cell_grid.proofs.part.Cursor.extent.Goals as goal

pub returns-then-clusters-eq0 : goal.returns-then-clusters-eq0
returns-then-clusters-eq0 c = sym (ap (λ n. extent (take n (all_spans (left_of c.args.runs.now c.args.self)))) c.if-clusters-eq0.true)

pub loop-reader-init : goal.loop-reader-init
loop-reader-init c =
    let had = c.requires.clusters in
    let none : c.args.clusters - c.args.clusters ≡ 0 = omega arith in
    let n : length (all_spans (left_of c.args.runs.now c.begin.new.self)) ≡ length (all_spans (left_of c.args.runs.now c.args.self)) = ap length c.begin.ensures.same.spans in
    record {
      passed = c.begin.ensures.same.spans ∙ sym (ap (λ k. drop k (all_spans (left_of c.args.runs.now c.args.self))) none);
      some = omega arith;
      most = omega arith;
      ahead = omega arith;
      begun = c.begin.ensures.first;
      within = c.begin.ensures.within c.requires.within;
    }

pub go_on-requires-clause-more : goal.go_on-requires-clause-more
go_on-requires-clause-more c = let ahead = c.loop-reader.invariant.ahead in omega arith

pub loop-reader-preserved : goal.loop-reader-preserved
loop-reader-preserved c =
    let before = left_of c.args.runs.now c.loop-reader.reader in
    let after = left_of c.args.runs.now c.go_on.new.self in
    let n = c.loop-reader.reader.first.count in
    let all = all_spans (left_of c.args.runs.now c.args.self) in
    let inv = c.loop-reader.invariant in
    let most = c.loop-reader.invariant.most in
    let ahead = c.loop-reader.invariant.ahead in
    let shorter = length-passed (all_spans before) (all_spans after) n c.go_on.ensures.passed.spans in
    record {
      passed = passed-then all (all_spans before) (all_spans after) c.args.clusters c.loop-reader.left n (omega arith) (omega arith) inv.passed c.go_on.ensures.passed.spans;
      some = omega arith;
      most = omega arith;
      ahead = omega arith;
      begun = c.go_on.ensures.first;
      within = c.go_on.ensures.within inv.within;
    }

pub overflow_mul-end_byte : goal.overflow_mul-end_byte
overflow_mul-end_byte c =
    let last = c.loop-reader.reader.first in
    let within = All-head IsWithin last (drop c.loop-reader.reader.next c.args.runs.now) c.loop-reader.invariant.within in
    let few = within.bytes in
    let all = mul-le c.loop-reader.left last.bytes last.count last.bytes (omega arith) (omega arith) in
    omega arith

pub overflow_mul-end_place : goal.overflow_mul-end_place
overflow_mul-end_place c =
    let last = c.loop-reader.reader.first in
    let within = All-head IsWithin last (drop c.loop-reader.reader.next c.args.runs.now) c.loop-reader.invariant.within in
    let few = within.places in
    let all = mul-le c.loop-reader.left last.points last.count last.points (omega arith) (omega arith) in
    omega arith

pub overflow_add-end_byte : goal.overflow_add-end_byte
overflow_add-end_byte c =
    let last = c.loop-reader.reader.first in
    let within = All-head IsWithin last (drop c.loop-reader.reader.next c.args.runs.now) c.loop-reader.invariant.within in
    let few = within.bytes in
    let all = mul-le c.loop-reader.left last.bytes last.count last.bytes (omega arith) (omega arith) in
    omega arith

pub overflow_add-end_place : goal.overflow_add-end_place
overflow_add-end_place c =
    let last = c.loop-reader.reader.first in
    let within = All-head IsWithin last (drop c.loop-reader.reader.next c.args.runs.now) c.loop-reader.invariant.within in
    let few = within.places in
    let all = mul-le c.loop-reader.left last.points last.count last.points (omega arith) (omega arith) in
    omega arith

pub returns : goal.returns
returns c =
    let inv = c.loop-reader.invariant in
    extent-taken (all_spans (left_of c.args.runs.now c.args.self)) c.begin.new.self.first c.loop-reader.reader.first (drop c.begin.new.self.next c.args.runs.now) (drop c.loop-reader.reader.next c.args.runs.now)
    c.args.clusters c.loop-reader.left inv.some inv.most (omega arith) c.begin.ensures.first c.begin.ensures.same.spans inv.passed
