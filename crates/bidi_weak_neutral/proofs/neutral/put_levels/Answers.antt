-- The goals of `put_levels` that are answered by hand.
use Rattle.std.proofs.Common.{arith, refl, ◌+◌, ◌<◌, ◌≡◌, ◌∙◌, ◌++◌, ap, sym, subst, length, get_or, take, append-nil, true, false}
use Rattle.std.specs.Prelude.{not}
use Rattle.std.proofs.lemmas.Bool.{true≢false}
use Rattle.std.proofs.lemmas.List.{get_or_default, drop_all, take_all}
use Rattle.bg_types.specs.declared.class.Bidi.TheVariants.{L}
use Rattle.bidi_weak_neutral.specs.Classes.{is_neutral}
use Rattle.bidi_weak_neutral.specs.Neutral.{implicit_level}
use Rattle.bidi_weak_neutral.specs.Pass.{neutral_type}
use Rattle.bidi_weak_neutral.proofs.Runs.{IsRun, IsRun-on}
use Rattle.bidi_weak_neutral.proofs.NeutralScans.{levels_from, levels_from-is, put-row, put-neutral}
use Rattle.bidi_weak_neutral.proofs.neutral.put_levels.Goals as goal
use Rattle.bidi_weak_neutral.proofs.neutral.put_levels.Goals.{then-end-k, else-end-k}

pub loop-k-preserved-then-not-is_neutral : goal.loop-k-preserved-then-not-is_neutral
loop-k-preserved-then-not-is_neutral c =
    let h = c.loop-k.invariant in
    let k = c.loop-k.k in
    let types = c.args.types.now in
    let e = c.put_row-k.ensures in
    let in_types : c.loop-k.k < length c.args.types.now = omega arith in
    let other : is_neutral (get_or c.args.types.now c.loop-k.k L) ≡ false = sym c.is_neutral.ensures ∙ c.if-not-is_neutral.true in
    let passed : c.loop-k.k < c.loop-k.end → ⊥ = λ more.
    let stop : not (is_neutral (get_or c.args.types.now c.loop-k.k L)) ≡ false =
    ap (λ x. not (is_neutral x)) (get_or_default types k L c.args.eos in_types) ∙ (h.run more).inside k (omega arith) (omega arith) in
    true≢false (sym (ap not other) ∙ stop) in
    record {
      so_far =
          put-row c.args.level c.args.eos c.loop-k.before (get_or types k L) c.implicit_level.result types c.loop-k.levels c.put_row-k.new.levels _ k c.put_row-k.result
          e.from e.within refl other c.implicit_level.ensures.level e.row e.levels h.so_far;
      within = e.within;
      run = λ more. absurd (passed (omega arith));
      neutral = λ more. absurd (passed (omega arith));
    }

pub loop-k-preserved : goal.loop-k-preserved
loop-k-preserved c =
    let h = c.loop-k.invariant in
    let k = c.loop-k.k in
    let types = c.args.types.now in
    let in_levels : c.loop-k.k < length c.loop-k.levels = omega arith in
    let in_types : c.loop-k.k < length c.args.types.now = omega arith in
    let neutral : is_neutral (get_or c.args.types.now c.loop-k.k L) ≡ true = sym c.is_neutral.ensures ∙ c.if-not-is_neutral.false in
    let run : IsRun (λ x. not (is_neutral x)) c.args.eos c.args.types.now (c.loop-k.k + 1) c.if-end-k.end =
    elim c.if-end-k.branch [
      | then-end-k w ↦
          subst (IsRun (λ x. not (is_neutral x)) c.args.eos c.args.types.now (c.loop-k.k + 1)) (sym w.end-is)
          (record {
            inside = λ j from to.
                ap (λ x. not (is_neutral x)) (get_or_default types j c.args.eos L (omega (arith, w.run_end-end.ensures.within)))
                ∙ ap not (w.run_end-end.ensures.run j from to);
            ahead = w.run_end-end.ensures.end c.args.eos;
          })
      | else-end-k w ↦
          subst (IsRun (λ x. not (is_neutral x)) c.args.eos c.args.types.now (c.loop-k.k + 1)) (sym w.end-is)
          (IsRun-on _ _ _ _ _ in_types w.if-end-k.false (h.run w.if-end-k.false))
    ] in
    let level : c.if-end-k.neutral ≡ implicit_level c.args.level (neutral_type c.args.level c.loop-k.before (get_or c.args.types.now c.if-end-k.end c.args.eos)) =
    elim c.if-end-k.branch [
      | then-end-k w ↦
          w.neutral-is ∙ w.implicit_level-neutral.ensures.level
          ∙ ap (implicit_level c.args.level) (w.neutral_type.ensures ∙ ap (neutral_type c.args.level c.loop-k.before) w.type_at-after.ensures)
          ∙ ap (λ e. implicit_level c.args.level (neutral_type c.args.level c.loop-k.before (get_or types e c.args.eos))) (sym w.end-is)
      | else-end-k w ↦
          w.neutral-is ∙ h.neutral w.if-end-k.false
          ∙ ap (λ e. implicit_level c.args.level (neutral_type c.args.level c.loop-k.before (get_or types e c.args.eos))) (sym w.end-is)
    ] in
    record {
      so_far =
          put-neutral c.args.level c.args.eos c.loop-k.before types c.loop-k.levels _ k in_types in_levels
          c.if-end-k.neutral (get_or types c.if-end-k.end c.args.eos) neutral run.ahead level h.so_far;
      within = omega arith;
      run = λ more. run;
      neutral = λ more. level;
    }

pub returns : goal.returns
returns c =
    let k = c.loop-k.k in
    let levels = c.loop-k.levels in
    sym (take_all k levels (omega arith)) ∙ sym (append-nil (take k levels))
    ∙ ap (λ t. take k levels ++ t) (sym (ap (levels_from c.args.level c.args.eos c.loop-k.before) (drop_all k c.args.types.now (omega arith))))
    ∙ c.loop-k.invariant.so_far
    ∙ sym (levels_from-is c.args.level c.args.sos c.args.eos c.args.types.now)
