-- What is left is the end of the text, and begins with a character.
use Rattle.std.proofs.Common.{◌≡◌, ◌-◌, ◌++◌, length, take, drop, ap, ap₂, subst, ◌∙◌, arith}
use Rattle.std.proofs.lemmas.List.{take-append-drop}
use Rattle.std.proofs.lemmas.Str.{IsCharBoundary-from_drop}
use Rattle.std.specs.Str.{IsUtf8}
use Rattle.paragraphs.specs.Text.{code_points}
use Rattle.text_buffer.proofs.Chars.{end-later, later-drop, front-points}
use Rattle.text_buffer.proofs.parted.parted.Goals as goal

pub past_first-rest-requires-text-text : goal.past_first-rest-requires-text-text
past_first-rest-requires-text-text c κs = c.loop-left.invariant.utf8

pub loop-left-preserved : goal.loop-left-preserved
loop-left-preserved c =
    let i = c.loop-left.invariant in
    let text = c.args.text.now in
    let rest = c.loop-left.rest.now in
    let next = c.past_first-rest.result.now in
    let less = c.past_first-rest.ensures.len in
    record {
      few = omega (arith, i.few);
      len = omega (arith, i.len, less);
      end = end-later text rest next i.len (omega (arith, less)) i.end c.past_first-rest.ensures.end;
      utf8 = c.past_first-rest.utf8;
      points = later-drop (code_points text) (code_points next) c.args.offset c.loop-left.left (omega (arith, c.loop-left-test.true)) i.few (c.past_first-rest.ensures.points ∙ ap (drop 1) i.points);
    }

pub range-requires-clause-end_boundary : goal.range-requires-clause-end_boundary
range-requires-clause-end_boundary c =
    let i = c.loop-left.invariant in
    IsCharBoundary-from_drop c.args.text.now (length c.args.text.now - length c.loop-left.rest.now) (omega arith) (subst IsUtf8 i.end i.utf8)

pub fact_in-rest : goal.fact_in-rest
fact_in-rest c = c.loop-left.invariant.utf8

pub returns-clause-front : goal.returns-clause-front
returns-clause-front c =
    let i = c.loop-left.invariant in
    let text = c.args.text.now in
    let rest = c.loop-left.rest.now in
    let n = length text - length rest in
    let same : n - 0 ≡ n = omega arith in
    let whole = ap₂ (λ x y. x ++ y) (c.range.ensures.value ∙ ap (λ k. take k text) same) i.end ∙ take-append-drop n text in
    let all : c.args.offset - c.loop-left.left ≡ c.args.offset = omega (arith, c.loop-left-test.false) in
    front-points text c.range.result.now rest c.args.offset c.range.utf8 whole (i.points ∙ ap (λ k. drop k (code_points text)) all)
