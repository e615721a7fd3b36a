-- The pass begins after the last place and ends at the first.
use Rattle.std.proofs.Common.{ℕ, suc, ◌≡◌, ◌∙◌, ◌-◌, ap, ap₂, sym, subst, List, [], ◌++◌, length, take, drop, replicate, reverse, false, arith}
use Rattle.bg_types.specs.declared.class.Bidi.TheVariants.{L}
use Rattle.std.proofs.lemmas.List.{take_all}
use Rattle.bidi_explicit.specs.declared.controls.Control.{Control}
use Rattle.bidi_explicit.specs.Controls.{Behind, no_control, odd_before}
use Rattle.bidi_explicit.proofs.Matching.{IsMatchedFrom, IsMatchedFrom-start, IsMatchedFrom-step, IsMatchedFrom-row, IsMatchedFrom-done}
use Rattle.bidi_explicit.proofs.controls.controls_into.Goals as goal

pub loop-end-init : goal.loop-end-init
loop-end-init c =
    let n = length c.args.classes.now in
    let all : length c.args.classes.now - 0 ≡ length c.args.classes.now = omega arith in
    let made : c.resize.new.self.items ≡ replicate (length c.args.classes.now) no_control =
    c.in_ok-resize.ensures.items
    ∙ ap₂ (λ (xs : List Control) (k : ℕ). take n xs ++ replicate (n - k) no_control) c.clear.ensures.items c.clear.ensures.len
    ∙ ap (λ (xs : List Control). xs ++ replicate (n - 0) no_control) (take_all n [] (omega arith))
    ∙ ap (λ k. replicate k no_control) all in
    record {
      within = omega arith;
      matched = IsMatchedFrom-start c.args.classes.now _ c.resize.new.self.items (ap (λ ps. record { odd = false; pdis = reverse ps }) c.clear-2.ensures.items) made;
    }

pub loop-end-preserved : goal.loop-end-preserved
loop-end-preserved c =
    let cs = c.args.classes.now in
    let xs = c.loop-end.controls.items in
    let h = c.loop-end.invariant in
    let e = c.control_end-start.ensures in
    let start = c.control_end-start.result in
    let row = IsMatchedFrom-row cs c.loop-end.matcher xs (c.loop-end.end - start) start c.loop-end.end (omega (arith, e.within)) h.within e.passed h.matched in
    let at : start ≡ suc (start - 1) = omega arith in
    let opened =
    subst (λ (b : Behind). IsMatchedFrom cs start (record b { odd = odd_before (take (c.loop-end.end - start) (drop start cs)) b.odd }) xs)
    (sym c.matcher-in-loop-end.view_is) row in
    let passed =
    subst (λ odd. IsMatchedFrom cs start (record { odd = odd; pdis = reverse c.matcher-in-loop-end.inside.pdis.items }) xs)
    (sym c.odd_before-matcher-inside.ensures) opened in
    record {
      within = omega (arith, e.within, h.within);
      matched = IsMatchedFrom-step cs (start - 1) _ xs
          (subst (λ n. IsMatchedFrom cs n (record { odd = c.odd_before-matcher-inside.result; pdis = reverse c.matcher-in-loop-end.inside.pdis.items }) xs) at passed)
          (omega (arith, e.within, h.within)) L c.in_ok-controls.field-0 c.pass.new.self c.in_ok-controls.ensures.control c.in_ok-controls.ensures.after;
    }

pub returns-then-start-eq0 : goal.returns-then-start-eq0
returns-then-start-eq0 c =
    let cs = c.args.classes.now in
    let xs = c.loop-end.controls.items in
    let h = c.loop-end.invariant in
    let e = c.control_end-start.ensures in
    let start = c.control_end-start.result in
    IsMatchedFrom-done cs _ xs start c.if-start-eq0.true
    (IsMatchedFrom-row cs c.loop-end.matcher xs (c.loop-end.end - start) start c.loop-end.end (omega (arith, e.within)) h.within e.passed h.matched)

pub returns : goal.returns
returns c =
    let none : c.loop-end.end ≡ 0 = omega arith in
    IsMatchedFrom-done c.args.classes.now c.loop-end.matcher c.loop-end.controls.items c.loop-end.end none c.loop-end.invariant.matched
