-- The goals of `set_bracket` that are answered by hand.
use Rattle.std.proofs.Common.{◌≡◌, ◌<◌, ◌∙◌, sym, inl, inr, length, arith}
use Rattle.std.proofs.lemmas.Bool.{cases_eq}
use Rattle.std.proofs.lemmas.List.{length-set, get_or-set_same}
use Rattle.bg_types.specs.declared.class.Bidi.{Bidi}
use Rattle.bg_types.specs.declared.class.Bidi.TheVariants.{On}
use Rattle.bracket_pairs.proofs.SetBracket.{set-begins, marks-more, marks-end}
use Rattle.bracket_pairs.proofs.Remembered.{same-more, mark-read}
use Rattle.bracket_pairs.proofs.n0.set_bracket.Goals as goal

pub loop-mark-init : goal.loop-mark-init
loop-mark-init c = record {
  set = set-begins c.args.class c.args.before_w1.now c.args.types.now c.args.place c.requires.within;
  marks = λ k a b. absurd (omega arith);
  same = λ k a b.
      let at : k ≡ c.args.place = omega arith in
      rw at (get_or-set_same c.args.types.now c.args.place c.args.class On c.requires.within);
}

pub loop-mark-preserved : goal.loop-mark-preserved
loop-mark-preserved c =
    let before = c.args.before_w1.now in
    let mark = c.loop-mark.mark in
    let in_before : mark < length before = omega (arith, length-set {A = Bidi}) in
    let in_types : mark < length c.loop-mark.types = omega (arith, length-set {A = Bidi}) in
    let is = sym c.is_nonspacing.ensures ∙ c.if-not-is_nonspacing.false in
    record {
      set = marks-more c.args.class _ before c.loop-mark.types mark in_before in_types is ∙ c.loop-mark.invariant.set;
      marks = λ k a b. elim (cases_eq k mark) [
        | inl e ↦ rw e (mark-read before mark _ _ in_before is)
        | inr ne ↦ c.loop-mark.invariant.marks k a (omega arith)
      ];
      same = same-more c.args.class c.loop-mark.types c.args.place mark in_types c.loop-mark.invariant.same;
    }

pub returns-then-not-is_nonspacing-clause-types : goal.returns-then-not-is_nonspacing-clause-types
returns-then-not-is_nonspacing-clause-types c =
    sym (marks-end c.args.class _ c.args.before_w1.now c.loop-mark.types c.loop-mark.mark
    (omega (arith, length-set {A = Bidi})) (omega (arith, length-set {A = Bidi}))
    (sym c.is_nonspacing.ensures ∙ c.if-not-is_nonspacing.true))
    ∙ c.loop-mark.invariant.set

pub returns-then-not-is_nonspacing-clause-run : goal.returns-then-not-is_nonspacing-clause-run
returns-then-not-is_nonspacing-clause-run c = record {
  within = omega (arith, length-set {A = Bidi});
  marks = c.loop-mark.invariant.marks;
  same = c.loop-mark.invariant.same;
  ended = λ lt.
      mark-read c.args.before_w1.now c.loop-mark.mark _ _ (omega (arith, length-set {A = Bidi}))
      (sym c.is_nonspacing.ensures ∙ c.if-not-is_nonspacing.true);
}
