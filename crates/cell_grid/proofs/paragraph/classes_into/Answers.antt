-- A class more at each step.
use Rattle.std.proofs.Common.{◌≡◌, ℕ, List, ◌<◌, ◌+◌, ◌++◌, ◌∷◌, [], map, take, length, vec_capacity, vec_len, get_or, sym, ap, ◌∙◌, arith}
use Rattle.std.proofs.lemmas.List.{map-append, take_all, take_more}
use Rattle.bg_types.specs.declared.class.Bidi.{Bidi}
use Rattle.unicode_tables.specs.declared.word.Word.{Word}
use Rattle.cell_grid.proofs.paragraph.classes_into.Goals as goal

-- the class of one more
made-on : (words : List Word) (i : ℕ) (d : Word) → i < length words → (classes more : List Bidi) → classes ≡ map (λ (w : Word). w.bidi) (take i words)
    → more ≡ classes ++ (get_or words i d).bidi ∷ [] → more ≡ map (λ (w : Word). w.bidi) (take (i + 1) words)
made-on words i d lt classes more made put =
    put ∙ ap (λ l. l ++ (get_or words i d).bidi ∷ []) made
    ∙ sym (map-append (λ (w : Word). w.bidi) (take i words) (get_or words i d ∷ [])) ∙ sym (ap (map (λ (w : Word). w.bidi)) (take_more words i d lt))

pub loop-word-init : goal.loop-word-init
loop-word-init c =
    let moved = c.replace-own.ensures.value in
    let none = c.clear.ensures.len in
    let kept = c.in_ok-reserve.ensures.len in
    let all = c.in_ok-reserve.ensures.ok in
    let own_len = ap vec_len moved in
    let own_room = ap vec_capacity moved in
    record {
      made = ap (λ v. v.items) moved ∙ c.in_ok-reserve.ensures.items ∙ c.clear.ensures.items;
      count = own_len ∙ kept ∙ none;
      room = omega arith;
    }

pub push_reserved-requires : goal.push_reserved-requires
push_reserved-requires c =
    let count = c.loop-word.invariant.count in
    let room = c.loop-word.invariant.room in
    omega (arith, c.loop-word-test.true)

pub loop-word-preserved : goal.loop-word-preserved
loop-word-preserved c =
    record {
      made = made-on c.args.words.now c.loop-word.word-index _ c.loop-word-test.true _ _ c.loop-word.invariant.made c.push_reserved.ensures.items;
      count = let one = c.push_reserved.ensures.len in let so_far = c.loop-word.invariant.count in omega arith;
      room = let same = c.push_reserved.ensures.capacity in let all = c.loop-word.invariant.room in omega arith;
    }

pub returns : goal.returns
returns c = c.loop-word.invariant.made ∙ ap (map (λ (w : Word). w.bidi)) (take_all c.loop-word.word-index c.args.words.now c.loop-word-test.false)
