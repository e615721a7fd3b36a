-- A word more at each step.
use Rattle.std.proofs.Common.{◌++◌, ◌∷◌, [], map, take, vec_capacity, vec_len, get_or, sym, ap, ◌∙◌, arith}
use Rattle.std.proofs.lemmas.List.{map-append, take_all, take_more}
use Rattle.unicode_tables.specs.Word.{word_of}
use Rattle.unicode_tables.proofs.tables.Tables.words_into.Goals as goal

pub loop-c-init : goal.loop-c-init
loop-c-init c =
    let moved = c.replace-own.ensures.value in
    let none = c.clear.ensures.len in
    let kept = c.in_ok-reserve.ensures.len in
    let all = c.in_ok-reserve.ensures.ok in
    let own_len = ap vec_len moved in
    let own_room = ap vec_capacity moved in
    record {
      made = ap (λ v. v.items) moved ∙ c.in_ok-reserve.ensures.items ∙ c.clear.ensures.items;
      count = own_len ∙ kept ∙ none;
      room = omega arith;
    }

pub push_reserved-requires : goal.push_reserved-requires
push_reserved-requires c =
    let count = c.loop-c.invariant.count in
    let room = c.loop-c.invariant.room in
    omega (arith, c.loop-c-test.true)

pub loop-c-preserved : goal.loop-c-preserved
loop-c-preserved c =
    let points = c.args.points.now in
    let i = c.loop-c.c-index in
    let word = word_of c.args.self.now in
    record {
      made =
          c.push_reserved.ensures.items ∙ ap (λ l. l ++ c.word.result ∷ []) c.loop-c.invariant.made
          ∙ ap (λ w. map word (take i points) ++ w ∷ []) (c.word.ensures ∙ ap word c.c-item.is)
          ∙ sym (map-append word (take i points) (get_or points i c.c-item.result ∷ [])) ∙ sym (ap (map word) (take_more points i c.c-item.result c.loop-c-test.true));
      count = let one = c.push_reserved.ensures.len in let so_far = c.loop-c.invariant.count in omega arith;
      room = let same = c.push_reserved.ensures.capacity in let all = c.loop-c.invariant.room in omega arith;
    }

pub returns : goal.returns
returns c = c.loop-c.invariant.made ∙ ap (map (word_of c.args.self.now)) (take_all c.loop-c.c-index c.args.points.now c.loop-c-test.false)
