-- Some spaces at a time.
use Rattle.std.proofs.Common.{◌≡◌, ℕ, ◌+◌, ◌-◌, ◌≤◌, ◌++◌, List, length, get_or, take, replicate, slice_range, refl, ap, sym, subst, ◌∙◌, arith, append_assoc}
use Rattle.std.proofs.lemmas.List.{length-replicate, get_or-replicate, replicate-append-replicate, take-replicate}
use Rattle.std.specs.Str.{IsCharBoundary}
use Rattle.cell_grid.specs.Held.{AppendsAllBut}
use Rattle.cell_grid.proofs.HeldEnd.{but-start, but-on, but-cut}
use Rattle.cell_grid.proofs.Writing.{on_err}
use Rattle.cell_grid.proofs.held.hold_spaces.Goals as goal

spaces-boundary : (count most : ℕ) (bytes : List ℕ) → bytes ≡ replicate most 32 → count ≤ most → IsCharBoundary bytes count
spaces-boundary count most bytes is le =
    let len = ap length is ∙ length-replicate most 32 in (
      omega arith,
      λ lt ge.
          let own = ap (λ b. get_or b count 0) is ∙ get_or-replicate most count 32 0 (omega arith) in
          absurd (omega arith),
    )

spaces-slice : (count most : ℕ) (bytes : List ℕ) → bytes ≡ replicate most 32 → count ≤ most → slice_range bytes 0 count ≡ replicate count 32
spaces-slice count most bytes is le =
    let all : count - 0 ≡ count = omega arith in
    ap (λ b. slice_range b 0 count) is ∙ ap (λ k. take k (replicate most 32)) all ∙ take-replicate count most 32 le

pub loop-left-init : goal.loop-left-init
loop-left-init g c =
    let old = g.W.Sink.written c.args.sink.now in
    let before = c.args.held.now.bytes in
    let none : 0 ≡ c.args.columns - c.args.columns = omega arith in
    record {
      working = c.requires.working;
      within = omega arith;
      so_far = subst (λ n. AppendsAllBut old old (before ++ replicate n 32) before) none (but-start old before);
    }

pub range-requires-clause-end_boundary : goal.range-requires-clause-end_boundary
range-requires-clause-end_boundary g c =
    let least = c.min-count.ensures in
    spaces-boundary c.min-count.result 64 _ refl (omega arith)

pub loop-left-preserved : goal.loop-left-preserved
loop-left-preserved g c =
    let before = c.args.held.now.bytes in
    let left = c.loop-left.left in
    let count = c.min-count.result in
    let passed = c.args.columns - left in
    let done = before ++ replicate passed 32 in
    let least = c.min-count.ensures in
    let within = c.loop-left.invariant.within in
    let own = c.range.ensures.value ∙ spaces-slice count 64 _ refl (omega arith) in
    let next : c.args.columns - (left - count) ≡ passed + count = omega arith in
    record {
      working = c.in_ok-hold_text.ensures.failed;
      within = omega arith;
      so_far =
          but-on _ _ _ done _ c.loop-left.invariant.so_far c.range.result.now _ _ c.in_ok-hold_text.ensures.ok
          (ap (λ k. before ++ replicate k 32) next ∙ ap (λ t. before ++ t) (sym (replicate-append-replicate passed count 32))
          ∙ sym (append_assoc before (replicate passed 32) (replicate count 32)) ∙ ap (λ t. done ++ t) (sym own));
    }

pub returns-in_err-hold_text-clause-err : goal.returns-in_err-hold_text-clause-err
returns-in_err-hold_text-clause-err g c =
    let before = c.args.held.now.bytes in
    let left = c.loop-left.left in
    let count = c.min-count.result in
    let passed = c.args.columns - left in
    let done = before ++ replicate passed 32 in
    let rest : List ℕ = replicate (left - count) 32 in
    let least = c.min-count.ensures in
    let within = c.loop-left.invariant.within in
    let own = c.range.ensures.value ∙ spaces-slice count 64 _ refl (omega arith) in
    let all : c.args.columns ≡ passed + (count + (left - count)) = omega arith in
    on_err c.from_residual.result
    (but-cut _ _ _ done _ c.loop-left.invariant.so_far c.range.result.now rest _ c.in_err-hold_text.ensures.err
    (ap (λ k. before ++ replicate k 32) all
    ∙ ap (λ t. before ++ t) (sym (replicate-append-replicate passed (count + (left - count)) 32) ∙ ap (λ t. replicate passed 32 ++ t) (sym (replicate-append-replicate count (left - count) 32)))
    ∙ sym (append_assoc before (replicate passed 32) (replicate count 32 ++ rest)) ∙ ap (λ t. done ++ (t ++ rest)) (sym own)))

pub returns-clause-ok : goal.returns-clause-ok
returns-clause-ok g c =
    let all : c.args.columns - c.loop-left.left ≡ c.args.columns = omega (arith, c.loop-left-test.false) in
    subst (λ n. AppendsAllBut (g.W.Sink.written c.args.sink.now) (g.W.Sink.written c.loop-left.sink) (c.args.held.now.bytes ++ replicate n 32) c.loop-left.held.bytes) all c.loop-left.invariant.so_far
