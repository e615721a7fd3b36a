-- Each character takes a byte at least.
use Rattle.std.proofs.Common.{length, vec_capacity, vec_len, sym, ap, subst, ◌∙◌, arith}
use Rattle.std.proofs.lemmas.Str.{IsUtf8-past_char}
use Rattle.std.specs.Str.{IsUtf8}
use Rattle.paragraphs.proofs.Gathered.{past_char-shorter, points-start, points-on, points-end}
use Rattle.paragraphs.proofs.points.code_points_into.Goals as goal

pub loop-c-init : goal.loop-c-init
loop-c-init c =
    let none = c.clear.ensures.len in
    let all = c.in_ok-reserve.ensures.ok in
    let kept = c.in_ok-reserve.ensures.len in
    let moved = c.replace-own.ensures.value in
    let own_len = ap vec_len moved in
    let own_room = ap vec_capacity moved in
    let same = c.chars-chars.ensures.rest in
    let long = ap length same in
    record {
      utf8 = subst IsUtf8 (sym same) c.utf8.text;
      so_far = points-start _ _ _ (ap (λ v. v.items) moved ∙ c.in_ok-reserve.ensures.items ∙ c.clear.ensures.items) same;
      room = omega arith;
    }

pub push_reserved-requires : goal.push_reserved-requires
push_reserved-requires c =
    let shorter = past_char-shorter _ _ c.in-Some.c c.in-Some.ensures.steps.0 in
    let room = c.loop-c.invariant.room in
    omega arith

pub loop-c-preserved : goal.loop-c-preserved
loop-c-preserved c =
    let step = c.in-Some.ensures.steps.0 in
    let shorter = past_char-shorter _ _ c.in-Some.c step in
    let room = c.loop-c.invariant.room in
    let one = c.push_reserved.ensures.len in
    let same = c.push_reserved.ensures.capacity in
    record {
      utf8 = IsUtf8-past_char _ _ c.in-Some.c c.loop-c.invariant.utf8 step;
      so_far = points-on _ _ _ c.loop-c.own.items _ c.in-Some.c c.loop-c.invariant.utf8 step c.loop-c.invariant.so_far c.push_reserved.ensures.items;
      room = omega arith;
    }

pub returns : goal.returns
returns c =
    points-end _ _ c.loop-c.own.items c.in_default.ensures.steps.0.0 c.loop-c.invariant.so_far
