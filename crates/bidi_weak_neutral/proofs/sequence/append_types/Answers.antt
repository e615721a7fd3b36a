-- A type more at each step.
use Rattle.std.proofs.Common.{arith, ℕ, ◌+◌, ◌<◌, ◌≡◌, ◌∙◌, ap, sym, List, [], ◌∷◌, ◌++◌, map, take, length, vec_capacity, vec_len, get_or, append-nil, Option}
use Rattle.std.proofs.lemmas.List.{append_assoc, map-append, take_all, take_more}
use Rattle.bg_types.specs.declared.class.Bidi.{Bidi}
use Rattle.bidi_explicit.specs.declared.kept.Kept.{Kept}
use Rattle.bidi_weak_neutral.specs.Levels.{type_of}
use Rattle.bidi_weak_neutral.proofs.sequence.append_types.Goals as goal

made-on : (kept : List (Option Kept)) (i : ℕ) (d : Option Kept) → i < length kept → (old types more : List Bidi) → types ≡ old ++ map type_of (take i kept)
    → more ≡ types ++ type_of (get_or kept i d) ∷ [] → more ≡ old ++ map type_of (take (i + 1) kept)
made-on kept i d lt old types more made put =
    put ∙ ap (λ l. l ++ type_of (get_or kept i d) ∷ []) made ∙ append_assoc old (map type_of (take i kept)) (type_of (get_or kept i d) ∷ [])
    ∙ ap (λ l. old ++ l) (sym (map-append type_of (take i kept) (get_or kept i d ∷ [])) ∙ sym (ap (map type_of) (take_more kept i d lt)))

pub loop-place-init : goal.loop-place-init
loop-place-init c =
    let moved = c.replace-own.ensures.value in
    let kept = c.in_ok-reserve.ensures.len in
    let all = c.in_ok-reserve.ensures.ok in
    let own_len = ap vec_len moved in
    let own_room = ap vec_capacity moved in
    record {
      made = ap (λ v. v.items) moved ∙ c.in_ok-reserve.ensures.items ∙ sym (append-nil c.args.types.now.items);
      count = omega arith;
      room = omega arith;
    }

pub push_reserved-requires : goal.push_reserved-requires
push_reserved-requires c =
    let count = c.loop-place.invariant.count in
    let room = c.loop-place.invariant.room in
    omega (arith, c.loop-place-test.true)

pub loop-place-preserved : goal.loop-place-preserved
loop-place-preserved c =
    record {
      made = made-on c.args.kept.now c.loop-place.place-index _ c.loop-place-test.true _ _ _ c.loop-place.invariant.made
          (c.push_reserved.ensures.items ∙ ap (λ t. c.loop-place.own.items ++ t ∷ []) c.class_of.ensures);
      count = let one = c.push_reserved.ensures.len in let so_far = c.loop-place.invariant.count in omega arith;
      room = let same = c.push_reserved.ensures.capacity in let all = c.loop-place.invariant.room in omega arith;
    }

pub returns : goal.returns
returns c =
    c.loop-place.invariant.made ∙ ap (λ ks. c.args.types.now.items ++ map type_of ks) (take_all c.loop-place.place-index c.args.kept.now c.loop-place-test.false)
