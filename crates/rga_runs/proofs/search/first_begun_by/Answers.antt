-- The goals of `first_begun_by` that are answered by hand.
use Rattle.std.proofs.Common.{◌≡◌, ◌∙◌, false, sym, ap, subst, rules}
use Rattle.std.proofs.lemmas.List.{take_all}
use Rattle.std.proofs.lemmas.List.Elements.{All-more}
use Rattle.std.specs.Prelude.{All}
use Rattle.bg_types.specs.Identifier.{Identifier, same_id}
use Rattle.bg_types.proofs.Interface.{same_id-itself}
use Rattle.rga_runs.specs.Stretches.{BeginsElsewhere}
use Rattle.rga_runs.proofs.search.first_begun_by.Goals as goal

pub loop-j-preserved : goal.loop-j-preserved
loop-j-preserved c =
    let ss = c.args.stretches.now in
    let s = c.index-stretches-j.result in
    let test : same_id s.first c.args.first ≡ false = search rules in
    let other : BeginsElsewhere c.args.first s = λ same.
    let both : same_id c.args.first c.args.first ≡ false = ap (λ (q : Identifier). same_id q c.args.first) (sym same) ∙ test in
    let itself = same_id-itself c.args.first in
    absurd cc in
    All-more (BeginsElsewhere c.args.first) ss c.loop-j.j s c.loop-j-test.true c.loop-j.invariant (subst (BeginsElsewhere c.args.first) c.index-stretches-j.is other)

pub returns-clause-absent : goal.returns-clause-absent
returns-clause-absent c = subst (All (BeginsElsewhere c.args.first)) (take_all c.loop-j.j c.args.stretches.now c.loop-j-test.false) c.loop-j.invariant
