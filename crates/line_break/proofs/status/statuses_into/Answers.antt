-- Each step over a word adds the status before its code point.
use Rattle.std.proofs.Common.{[], vec_capacity, vec_len, ap, ◌∙◌, arith}
use Rattle.line_break.proofs.Marking.{words-first, IsMarkedTo-start, IsMarkedTo-on, statuses-end, next-word, no_word}
use Rattle.line_break.proofs.status.statuses_into.Goals as goal

pub loop-word-init : goal.loop-word-init
loop-word-init c =
    let moved = c.replace-own.ensures.value in
    let none = c.clear.ensures.len in
    let kept = c.in_ok-reserve.ensures.len in
    let all = c.in_ok-reserve.ensures.ok in
    let own_len = ap vec_len moved in
    let own_room = ap vec_capacity moved in
    record {
      marked =
          IsMarkedTo-start c.args.words.now c.in-Some.first.now _ _ _
          (words-first c.args.words.now c.in-Some.first.now c.in-Some.ensures.value)
          (ap (λ v. v.items) moved ∙ c.in_ok-reserve.ensures.items ∙ c.clear.ensures.items)
          (c.next-state.ensures [] c.start.ensures _ c.column_of.ensures);
      count = own_len ∙ kept ∙ none;
      room = omega arith;
    }

pub loop-word-preserved : goal.loop-word-preserved
loop-word-preserved c =
    let m = c.loop-word.invariant.marked in
    record {
      marked =
          IsMarkedTo-on c.args.words.now _ _ _ m _ _ c.status_before.result _ _
          (next-word c.args.words.now c.loop-word.word-index _ c.loop-word-test.true)
          (c.status_before.ensures m.front m.behind _ c.column_of-column.ensures)
          c.push_reserved.ensures.items
          (c.next-state-in-loop-word.ensures m.front m.behind _ c.column_of-column.ensures);
      count = let one = c.push_reserved.ensures.len in let so_far = c.loop-word.invariant.count in omega arith;
      room = let same = c.push_reserved.ensures.capacity in let all = c.loop-word.invariant.room in omega arith;
    }

pub returns : goal.returns
returns c =
    statuses-end c.args.words.now _ _ _ c.loop-word.invariant.marked _
    (no_word c.args.words.now c.loop-word.word-index c.loop-word-test.false) c.push_reserved-2.ensures.items
