-- The goals of `put_letters` that are answered by hand.
use Rattle.std.proofs.Common.{arith, ◌<◌, ◌≡◌, ◌-◌, ◌++◌, ◌∙◌, sym, subst, length, get_or, take, replicate, below_more, true}
use Rattle.std.proofs.lemmas.List.{length-set}
use Rattle.bg_types.specs.declared.class.Bidi.TheVariants.{L}
use Rattle.bidi_weak_neutral.specs.Pass.{goes_on}
use Rattle.bidi_weak_neutral.proofs.Stretches.{stretch-start, stretch-more}
use Rattle.bidi_weak_neutral.proofs.weak.put_letters.Goals as goal

pub loop-end-init : goal.loop-end-init
loop-end-init c =
    let lt : c.args.start < length c.args.types.now = omega arith in
    record {
      long = length-set _ _ _ ∙ c.requires.types;
      letters = λ k from to. absurd (omega arith);
      put = stretch-start c.args.types.now c.args.start c.args.letter lt;
    }

pub loop-end-preserved : goal.loop-end-preserved
loop-end-preserved c =
    let h = c.loop-end.invariant in
    let before = c.args.before.now in
    let lt : c.loop-end.end < length c.loop-end.types = omega (arith, h.long) in
    let here : goes_on c.args.class (get_or c.args.before.now c.loop-end.end L) ≡ true = sym c.goes_on.ensures ∙ c.if-not-goes_on.false in
    record {
      long = length-set _ _ _ ∙ h.long;
      letters = λ k from to. below_more (λ n. c.args.start < n → goes_on c.args.class (get_or before n L) ≡ true) c.loop-end.end (λ n m s. h.letters n s m) (λ s. here) k to from;
      put = stretch-more c.args.types.now c.loop-end.types c.args.start c.loop-end.end c.args.letter (omega arith) lt h.put;
    }

pub returns : goal.returns
returns c =
    let h = c.loop-end.invariant in
    let at : c.loop-end.end ≡ length c.args.before.now = omega arith in
    record {
      from = c.requires.start;
      within = omega arith;
      letters = λ k from to. h.letters k from (omega arith);
      types = subst (λ n. take n c.loop-end.types ≡ take c.args.start c.args.types.now ++ replicate (n - c.args.start) c.args.letter) at h.put;
    }
