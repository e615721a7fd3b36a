-- The next kept place, or the PDI.
use Rattle.std.proofs.Common.{◌≡◌, ◌∙◌, ◌<◌, ℕ, Option, None, Some, IfSome, false, not, length, ap, sym, subst}
use Rattle.bidi_explicit.specs.Sequences.{has_level_of, kept_after, over_isolate}
use Rattle.bidi_explicit.proofs.Chains.{is_kept-is, has_level_of-is, next-out, next-after, next-over}
use Rattle.bidi_explicit.proofs.sequences.next.Goals as goal
use Rattle.bidi_explicit.proofs.sequences.next.Goals.{in-Some+else-same_level, in_default}

-- what holds of a number holds of an optional one that is none other
inside-same : (P : ℕ → Type 0) (o : Option ℕ) (n : ℕ) → IfSome o (λ i. i ≡ n) → P n → IfSome o P
inside-same P None n same h = tt
inside-same P (Some i) n same h = subst P (sym same) h

pub returns-then-is_none-clause-next : goal.returns-then-is_none-clause-next
returns-then-is_none-clause-next c =
    sym (next-out c.args.places.now c.args.pdi c.args.place (is_kept-is c.args.places.now c.args.place None _ c.requires.place (c.is_none.ensures ∙ ap not c.if-is_none.true)))

pub returns-then-is_none-clause-inside : goal.returns-then-is_none-clause-inside
returns-then-is_none-clause-inside c = tt

pub bounds-places-after : goal.bounds-places-after
bounds-places-after c = c.in-Some.ensures.inside.1

pub returns-then-same_level-clause-next : goal.returns-then-same_level-clause-next
returns-then-same_level-clause-next c =
    let kept = is_kept-is c.args.places.now c.args.place None _ c.requires.place (c.is_none.ensures ∙ ap not c.if-is_none.false) in
    sym (next-after c.args.places.now c.args.pdi c.args.place kept c.in-Some.after (sym c.in-Some.ensures.kept)
    (has_level_of-is c.args.places.now c.args.place c.in-Some.after None c.requires.place c.in-Some.ensures.inside.1 ∙ sym c.same_level.ensures ∙ c.if-same_level.true))

pub returns-then-same_level-clause-inside : goal.returns-then-same_level-clause-inside
returns-then-same_level-clause-inside c = c.in-Some.ensures.inside

pub over_isolate-requires : goal.over_isolate-requires
over_isolate-requires c =
    let inside = subst (λ (o : Option ℕ). IfSome o (λ i. (c.args.place < i) × (i < length c.args.places.now))) c.in_ok-pdi.was c.requires.pdi in
    inside.1

pub returns-clause-next : goal.returns-clause-next
returns-clause-next c =
    let places = c.args.places.now in
    let place = c.args.place in
    let kept = is_kept-is places place None _ c.requires.place (c.is_none.ensures ∙ ap not c.if-is_none.false) in
    let apart : has_level_of places place (kept_after places place) ≡ false =
    elim c.match-kept_after.branch [
      | in-Some+else-same_level w ↦
          ap (has_level_of places place) (sym w.in-Some.ensures.kept)
          ∙ has_level_of-is places place w.in-Some.after None c.requires.place w.in-Some.ensures.inside.1 ∙ sym w.same_level.ensures ∙ w.if-same_level.false
      | in_default w ↦ ap (has_level_of places place) (sym w.in_default.ensures.kept)
    ] in
    c.over_isolate.ensures.over ∙ ap (over_isolate places) (sym c.in_ok-pdi.was) ∙ sym (next-over places c.args.pdi place kept apart)

pub returns-clause-inside : goal.returns-clause-inside
returns-clause-inside c =
    let inside = subst (λ (o : Option ℕ). IfSome o (λ i. (c.args.place < i) × (i < length c.args.places.now))) c.in_ok-pdi.was c.requires.pdi in
    inside-same (λ i. (c.args.place < i) × (i < length c.args.places.now)) c.over_isolate.result c.in_ok-pdi.field-0 c.over_isolate.ensures.same inside
