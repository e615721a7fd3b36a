-- The goals of `resolve_weak` that are answered by hand.
use Rattle.std.proofs.Common.{arith, inl, inr, refl, ℕ, ◌+◌, ◌<◌, ◌≤◌, ◌≡◌, ◌∙◌, ap, sym, subst, List, length, get_or, drop, true, false}
use Rattle.bg_types.specs.declared.class.Bidi.{Bidi}
use Rattle.bg_types.specs.declared.class.Bidi.TheVariants.{L, On}
use Rattle.std.proofs.lemmas.Bool.{cases_lt, true≢false}
use Rattle.std.proofs.lemmas.List.{get_or_default}
use Rattle.bidi_weak_neutral.specs.Classes.{is_strong}
use Rattle.bidi_weak_neutral.specs.Pass.{is_past_terminators, is_weak, lettered, marked, terminated}
use Rattle.bidi_weak_neutral.proofs.Letters.{letters-step, strong-past, terminated-other}
use Rattle.bidi_weak_neutral.proofs.Runs.{IsRun, IsRun-on}
use Rattle.bidi_weak_neutral.proofs.WeakPass.{weak_types-is, weak-step, weak-read, neutral-step, past_marks}
use Rattle.bidi_weak_neutral.proofs.weak.resolve_weak.Goals as goal
use Rattle.bidi_weak_neutral.proofs.weak.resolve_weak.Goals.{then-eq, else-eq}

pub loop-place-init : goal.loop-place-init
loop-place-init c = record { so_far = sym (weak_types-is c.args.sos c.args.before.now); within = omega arith; run = λ lt. absurd (omega arith) }

pub loop-place-preserved-then-is_strong : goal.loop-place-preserved-then-is_strong
loop-place-preserved-then-is_strong c =
    let h = c.loop-place.invariant in
    let i = c.loop-place.place in
    let before = c.args.before.now in
    let lt : c.loop-place.place < length c.args.before.now = omega arith in
    let e = c.put_letters-place.ensures in
    let x = get_or before i L in
    let strong : is_strong (get_or c.args.before.now c.loop-place.place L) ≡ true = sym c.is_strong.ensures ∙ c.if-is_strong.true in
    record {
      so_far =
          letters-step c.loop-place.base c.loop-place.strong c.loop-place.last c.loop-place.beside x c.lettered-last.result
          c.loop-place.types c.put_letters-place.new.types _ before i c.put_letters-place.result e.from e.within refl strong c.lettered-last.ensures
          e.letters e.types h.so_far;
      within = e.within;
      run = λ more.
          let past : is_past_terminators (get_or c.args.before.now c.loop-place.place On) ≡ false = (h.run (omega arith)).inside i (omega arith) (omega arith) in
          absurd (true≢false (sym (strong-past _ strong) ∙ ap is_past_terminators (get_or_default before i L On lt) ∙ past));
    }

pub loop-place-preserved-then-not-is_weak : goal.loop-place-preserved-then-not-is_weak
loop-place-preserved-then-not-is_weak c =
    let h = c.loop-place.invariant in
    let i = c.loop-place.place in
    let before = c.args.before.now in
    let lt : c.loop-place.place < length c.args.before.now = omega arith in
    let long : length c.loop-place.types ≡ length c.args.before.now = omega arith in
    let x = get_or before i L in
    let other : is_strong (get_or c.args.before.now c.loop-place.place L) ≡ false = sym c.is_strong.ensures ∙ c.if-is_strong.false in
    let calm : is_weak (get_or c.args.before.now c.loop-place.place L) ≡ false = sym c.is_weak.ensures ∙ c.if-not-is_weak.true in
    record {
      so_far =
          weak-step c.loop-place.base c.loop-place.strong c.loop-place.last c.loop-place.beside x c.loop-place.strong x x x c.loop-place.types _ before i lt long
          (neutral-step c.loop-place.base c.loop-place.strong c.loop-place.last c.loop-place.beside x (drop (i + 1) before) other calm) h.so_far;
      within = omega arith;
      run = λ more. IsRun-on _ _ _ _ _ lt (omega arith) (h.run (omega arith));
    }

-- what is found ahead, or was known before
ahead-of : (before : List Bidi) (i end found : ℕ) → i < length before → (i < end → IsRun is_past_terminators On before i end)
    → (i + 1 ≤ end → found ≡ end)
    → (end < i + 1 → (k : ℕ) → i + 1 ≤ k → k < found → is_past_terminators (get_or before k On) ≡ false)
    → (end < i + 1 → past_marks (drop (i + 1) before) ≡ get_or before found On)
    → IsRun is_past_terminators On before (i + 1) found
ahead-of before i end found lt run known inside ahead =
    elim (cases_lt end (i + 1)) [
      | inl past ↦ record { inside = inside past; ahead = ahead past }
      | inr more ↦ subst (IsRun is_past_terminators On before (i + 1)) (sym (known more)) (IsRun-on _ _ _ _ _ lt (omega arith) (run (omega arith)))
    ]

pub loop-place-preserved : goal.loop-place-preserved
loop-place-preserved c =
    let h = c.loop-place.invariant in
    let i = c.loop-place.place in
    let before = c.args.before.now in
    let lt : c.loop-place.place < length c.args.before.now = omega arith in
    let long : length c.loop-place.types ≡ length c.args.before.now = omega arith in
    let b = c.unmarked-base.result in
    let s = c.strong_behind-behind.result in
    let j = c.joined_before-number.result in
    let n0 = get_or before (i + 1) On in
    let e0 = past_marks (drop (i + 1) before) in
    let run : c.loop-place.place + 1 < c.if-eq.end → IsRun is_past_terminators On c.args.before.now (c.loop-place.place + 1) c.if-eq.end =
    elim c.if-eq.branch [
      | then-eq w ↦ λ more.
          let e = w.end_from-end.ensures in
          subst (IsRun is_past_terminators On c.args.before.now (c.loop-place.place + 1)) (sym w.end-is)
          (ahead-of before i c.loop-place.end w.end_from-end.result lt h.run e.known e.run e.end)
      | else-eq w ↦ λ more.
          subst (IsRun is_past_terminators On c.args.before.now (c.loop-place.place + 1)) (sym w.end-is)
          (IsRun-on _ _ _ _ _ lt (omega arith) (h.run (omega arith)))
    ] in
    let whole : c.if-eq.whole ≡ terminated c.loop-place.beside c.joined_before-number.result
    (lettered c.strong_behind-behind.result (marked c.unmarked-base.result (past_marks (drop (c.loop-place.place + 1) c.args.before.now)))) =
    elim c.if-eq.branch [
      | then-eq w ↦
          let e = w.end_from-end.ensures in
          let found = ahead-of before i c.loop-place.end w.end_from-end.result lt h.run e.known e.run e.end in
          w.whole-is ∙ w.terminated-whole.ensures
          ∙ ap (terminated c.loop-place.beside j) (w.letter_at.ensures ∙ ap (λ x. lettered s (marked b x)) (sym found.ahead))
      | else-eq w ↦
          w.whole-is ∙ sym (terminated-other c.loop-place.beside j (lettered s (marked b e0)) (sym c.eq.ensures ∙ w.if-eq.false))
    ] in
    record {
      so_far =
          weak-step c.loop-place.base c.loop-place.strong c.loop-place.last c.loop-place.beside b s
          c.lettered-letter.result c.unterminated-beside.result c.settled.result c.loop-place.types _ before i lt long
          (weak-read c.loop-place.base c.loop-place.strong c.loop-place.last c.loop-place.beside (get_or before i L) c.marked-mark.result b
          s c.lettered-letter.result n0 (marked b n0) (lettered s (marked b n0)) j
          e0 (marked b e0) (lettered s (marked b e0)) c.if-eq.whole c.settled.result c.unterminated-beside.result
          before (i + 1) c.marked-mark.ensures c.unmarked-base.ensures c.strong_behind-behind.ensures c.lettered-letter.ensures
          refl refl refl c.joined_before-number.ensures
          refl refl refl whole
          c.settled.ensures c.unterminated-beside.ensures)
          h.so_far;
      within = omega arith;
      run = run;
    }
