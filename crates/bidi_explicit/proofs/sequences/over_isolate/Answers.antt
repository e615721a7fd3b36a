-- A PDI that has not the level of what is kept before it.
use Rattle.std.proofs.Common.{◌≡◌, ◌<◌, ◌∙◌, refl, ap, sym, true, false, None, arith}
use Rattle.bidi_explicit.specs.Sequences.{has_level_of, kept_before}
use Rattle.bidi_explicit.proofs.Chains.{has_level_of-is}
use Rattle.bidi_explicit.proofs.sequences.over_isolate.Goals as goal

pub returns-then-same_level-clause-over : goal.returns-then-same_level-clause-over
returns-then-same_level-clause-over c =
    let places = c.args.places.now in
    let order : c.in-Some.before < c.args.pdi = c.in-Some.ensures.inside in
    let same : has_level_of c.args.places.now c.args.pdi (kept_before c.args.places.now c.args.pdi) ≡ true =
    ap (has_level_of places c.args.pdi) (sym c.in-Some.ensures.kept)
    ∙ has_level_of-is places c.args.pdi c.in-Some.before None c.requires (omega arith) ∙ sym c.same_level.ensures ∙ c.if-same_level.true in
    rw same refl

pub returns-else-same_level-clause-over : goal.returns-else-same_level-clause-over
returns-else-same_level-clause-over c =
    let places = c.args.places.now in
    let order : c.in-Some.before < c.args.pdi = c.in-Some.ensures.inside in
    let apart : has_level_of c.args.places.now c.args.pdi (kept_before c.args.places.now c.args.pdi) ≡ false =
    ap (has_level_of places c.args.pdi) (sym c.in-Some.ensures.kept)
    ∙ has_level_of-is places c.args.pdi c.in-Some.before None c.requires (omega arith) ∙ sym c.same_level.ensures ∙ c.if-same_level.false in
    rw apart refl

pub returns-in_default-clause-over : goal.returns-in_default-clause-over
returns-in_default-clause-over c = rw (← c.in_default.ensures.kept) refl
