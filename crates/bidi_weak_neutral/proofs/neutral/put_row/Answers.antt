-- The goals of `put_row` that are answered by hand.
use Rattle.std.proofs.Common.{arith, rules, ◌<◌, ◌≡◌, ◌∙◌, sym, length, get_or, below_more}
use Rattle.std.proofs.lemmas.List.{length-set}
use denote.Enum.Bare.{same_true}
use Rattle.bg_types.specs.contracts.class.Bidi.{the_type}
use Rattle.bg_types.specs.declared.class.Bidi.TheVariants.{L}
use Rattle.bidi_weak_neutral.proofs.Stretches.{stretch-start, stretch-more}
use Rattle.bidi_weak_neutral.proofs.neutral.put_row.Goals as goal

pub loop-end-init : goal.loop-end-init
loop-end-init c =
    let lt : c.args.start < length c.args.levels.now = omega arith in
    record {
      long = length-set _ _ _ ∙ c.requires.levels;
      from = omega arith;
      within = omega arith;
      row = λ k from to. absurd (omega arith);
      put = stretch-start c.args.levels.now c.args.start c.args.level lt;
    }

pub loop-end-preserved : goal.loop-end-preserved
loop-end-preserved c =
    let h = c.loop-end.invariant in
    let types = c.args.types.now in
    let lt : c.loop-end.end < length c.loop-end.levels = omega (arith, h.long) in
    let here : get_or c.args.types.now c.loop-end.end L ≡ c.args.class = same_true the_type (search rules) _ _ (sym c.eq.ensures ∙ c.if-eq.true) in
    record {
      long = length-set _ _ _ ∙ h.long;
      from = omega arith;
      within = omega arith;
      row = λ k from to. below_more (λ n. c.args.start < n → get_or types n L ≡ c.args.class) c.loop-end.end (λ n m s. h.row n s m) (λ s. here) k to from;
      put = stretch-more c.args.levels.now c.loop-end.levels c.args.start c.loop-end.end c.args.level (omega arith) lt h.put;
    }
