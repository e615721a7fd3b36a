-- What is planned is made, and the sums are those of the new text.
use Rattle.std.proofs.Common.{rules, Err, ◌≡◌, ◌⊎◌, ◌+◌, ◌-◌, ◌≤◌, ◌++◌, length, map, take, drop, refl, sym, ap, ap₂, subst, ◌∙◌, arith}
use Rattle.std.proofs.lemmas.Result.{err_from_is_err_and}
use Rattle.std.proofs.lemmas.Str.{chars_from_encodes}
use Rattle.std.specs.List.{concat}
use Rattle.std.specs.Prelude.{string_bytes}
use Rattle.paragraphs.specs.Text.{code_points}
use Rattle.text_buffer.specs.Buffers.{bytes_in, paragraphs_in, IsSplit}
use Rattle.text_buffer.specs.Edits.{replaced, anew, IsParagraphOf}
use Rattle.text_buffer.specs.Pieces.{points_in}
use Rattle.text_buffer.specs.Blocks.{rows_of, pieces_in, texts_in}
use Rattle.text_buffer.specs.Places.{IsInFront}
use Rattle.text_buffer.specs.Stretches.{text_with}
use Rattle.text_buffer.proofs.Places.{seen-points, stands-still}
use Rattle.text_buffer.proofs.Edits.{places-replaced}
use Rattle.text_buffer.proofs.Sums.{places-few}
use Rattle.text_buffer.proofs.Counted.{counted-new, counted-same, fits-split, fault-of, ok-fits, memory-fits}
use Rattle.text_buffer.proofs.buffer.Buffer.edit.Goals as goal

pub plan_edit-requires-clause-within : goal.plan_edit-requires-clause-within
plan_edit-requires-clause-within g c =
    let bs = c.self.inside.blocks.items in
    let view = sym (seen-points (pieces_in bs)) ∙ ap paragraphs_in c.self.view_is in
    let e = c.deref.ensures.value in
    let is = ap texts_in e ∙ view in
    omega (arith, ap (λ k. length (concat k)) is, c.requires.within)

pub plan_edit-requires-clause-split : goal.plan_edit-requires-clause-split
plan_edit-requires-clause-split g c =
    let bs = c.self.inside.blocks.items in
    let view = sym (seen-points (pieces_in bs)) ∙ ap paragraphs_in c.self.view_is in
    let e = c.deref.ensures.value in
    let is = ap texts_in e ∙ view in
    subst (IsSplit c.args.tables.now) (sym is) c.requires.split

pub returns-in_err-plan-clause-too_long : goal.returns-in_err-plan-clause-too_long
returns-in_err-plan-clause-too_long g c =
    let bs = c.self.inside.blocks.items in
    let view = sym (seen-points (pieces_in bs)) ∙ ap paragraphs_in c.self.view_is in
    let e = c.deref.ensures.value in
    let is = ap texts_in e ∙ view in
    let p = err_from_is_err_and c.from_residual.result c.from_residual.ensures.1 in
    let q = p.1 ∙ ap Err p.2 in
    let bytes = ap (λ k. bytes_in (replaced (concat k) c.args.from c.args.to (code_points c.args.text.now))) is in
    (λ long. omega (arith, bytes, c.in_err-plan.ensures.too_long.0 (ap Err (fault-of _ _ (sym q ∙ long)))), λ m. q ∙ ap Err (fault-of _ _ (c.in_err-plan.ensures.too_long.1 (omega (arith, bytes, m)))))

pub change-requires-clause-split : goal.change-requires-clause-split
change-requires-clause-split g c =
    let bs = c.self.inside.blocks.items in
    let view = sym (seen-points (pieces_in bs)) ∙ ap paragraphs_in c.self.view_is in
    subst (IsSplit c.args.tables.now) (sym view) c.requires.split

pub invariant_of-self : goal.invariant_of-self
invariant_of-self g c =
    let bs = c.self.inside.blocks.items in
    let new = c.change.new.blocks.items in
    let before = c.at_or_in_front-self-inside.result in
    let stood = subst (λ all. IsInFront all before) c.deref-2.ensures.value c.at_or_in_front-self-inside.ensures.stands in
    let front = subst (λ n. take n (rows_of new) ≡ take n (rows_of bs)) (sym c.at_or_in_front-self-inside.ensures.block) c.change.ensures.front in
    let still = stands-still bs new before stood front (omega (arith, c.at_or_in_front-self-inside.ensures.order, c.in_ok-plan.ensures.block.reached, c.change.ensures.there)) in
    counted-same bs new _ _ _ _ _ (ap points_in c.in_err-touched.ensures.err) still c.self.invariant

pub returns-in_err-touched-clause-too_long : goal.returns-in_err-touched-clause-too_long
returns-in_err-touched-clause-too_long g c =
    let bs = c.self.inside.blocks.items in
    let view = sym (seen-points (pieces_in bs)) ∙ ap paragraphs_in c.self.view_is in
    let e = c.deref.ensures.value in
    let is = ap texts_in e ∙ view in
    let p = err_from_is_err_and c.from_residual-in_err-touched.result c.from_residual-in_err-touched.ensures.1 in
    let bytes = ap (λ k. bytes_in (replaced (concat k) c.args.from c.args.to (code_points c.args.text.now))) is in
    (λ long. absurd (memory-fits _ (p.1 ∙ ap Err p.2) long), λ m. absurd (omega (arith, bytes, c.in_ok-plan.ensures.bytes, c.in_ok-plan.ensures.few, m)))

pub overflow_sub-self-2 : goal.overflow_sub-self-2
overflow_sub-self-2 g c =
    let bs = c.self.inside.blocks.items in
    let view = sym (seen-points (pieces_in bs)) ∙ ap paragraphs_in c.self.view_is in
    let e = c.deref.ensures.value in
    let i = c.self.invariant in
    let to = c.args.to in
    let made = c.in_ok-touched.ensures in
    let planned = c.in_ok-plan.ensures in
    let within : to ≤ length (concat (texts_in bs)) = omega (arith, c.requires.within, ap (λ k. length (concat k)) view) in
    let begun = planned.stretch.begun in
    let size = ap (λ b. length (texts_in b)) e in
    omega (arith, i.places_is, within, c.requires.order, i.paragraphs_is, size, begun.within, made.old)

pub overflow_add-self : goal.overflow_add-self
overflow_add-self g c =
    let bs = c.self.inside.blocks.items in
    let view = sym (seen-points (pieces_in bs)) ∙ ap paragraphs_in c.self.view_is in
    let e = c.deref.ensures.value in
    let i = c.self.invariant in
    let from = c.args.from in
    let to = c.args.to in
    let points = code_points c.args.text.now in
    let planned = c.in_ok-plan.ensures in
    let text = replaced (concat (texts_in bs)) from to points in
    let within : to ≤ length (concat (texts_in bs)) = omega (arith, c.requires.within, ap (λ k. length (concat k)) view) in
    let places = places-replaced (concat (texts_in bs)) points from to c.requires.order within in
    let more : c.count-more.result ≡ length points = search (rules, chars_from_encodes) in
    omega (arith, i.places_is, within, c.requires.order, places, more, places-few text, planned.bytes, planned.few, ap (λ b. bytes_in (replaced (concat (texts_in b)) from to points)) e)

pub overflow_add-self-2 : goal.overflow_add-self-2
overflow_add-self-2 g c =
    let bs = c.self.inside.blocks.items in
    let view = sym (seen-points (pieces_in bs)) ∙ ap paragraphs_in c.self.view_is in
    let e = c.deref.ensures.value in
    let i = c.self.invariant in
    let from = c.args.from in
    let to = c.args.to in
    let points = code_points c.args.text.now in
    let tables = c.args.tables.now in
    let plan = c.in_ok-plan.plan in
    let s = plan.stretch in
    let made = c.in_ok-touched.ensures in
    let planned = c.in_ok-plan.ensures in
    let new = c.change.new.blocks.items in
    let pts = code_points (string_bytes s.text) in
    let text = replaced (concat (texts_in bs)) from to points in
    let whole : concat (texts_in new) ≡ text = made.text ∙ ap (λ b. text_with (texts_in b) s.from s.to pts) (sym e) ∙ planned.text ∙ ap (λ b. replaced (concat (texts_in b)) from to points) e in
    let within : to ≤ length (concat (texts_in bs)) = omega (arith, c.requires.within, ap (λ k. length (concat k)) view) in
    let begun = planned.stretch.begun in
    let size = ap (λ b. length (texts_in b)) e in
    omega (arith, i.paragraphs_is, size, begun.within, made.old, made.count, fits-split tables new made.split (omega (arith, ap bytes_in whole, planned.bytes, planned.few, ap (λ b. bytes_in (replaced (concat (texts_in b)) from to points)) e)))

pub invariant_of-self-2 : goal.invariant_of-self-2
invariant_of-self-2 g c =
    let bs = c.self.inside.blocks.items in
    let view = sym (seen-points (pieces_in bs)) ∙ ap paragraphs_in c.self.view_is in
    let e = c.deref.ensures.value in
    let i = c.self.invariant in
    let from = c.args.from in
    let to = c.args.to in
    let points = code_points c.args.text.now in
    let tables = c.args.tables.now in
    let plan = c.in_ok-plan.plan in
    let s = plan.stretch in
    let made = c.in_ok-touched.ensures in
    let planned = c.in_ok-plan.ensures in
    let new = c.change.new.blocks.items in
    let pts = code_points (string_bytes s.text) in
    let text = replaced (concat (texts_in bs)) from to points in
    let whole : concat (texts_in new) ≡ text = made.text ∙ ap (λ b. text_with (texts_in b) s.from s.to pts) (sym e) ∙ planned.text ∙ ap (λ b. replaced (concat (texts_in b)) from to points) e in
    let within : to ≤ length (concat (texts_in bs)) = omega (arith, c.requires.within, ap (λ k. length (concat k)) view) in
    let places = places-replaced (concat (texts_in bs)) points from to c.requires.order within in
    let more : c.count-more.result ≡ length points = search (rules, chars_from_encodes) in
    let begun = planned.stretch.begun in
    let size = ap (λ b. length (texts_in b)) e in
    let before = c.at_or_in_front-self-inside.result in
    let stood = subst (λ all. IsInFront all before) c.deref-2.ensures.value c.at_or_in_front-self-inside.ensures.stands in
    let front = subst (λ n. take n (rows_of new) ≡ take n (rows_of bs)) (sym c.at_or_in_front-self-inside.ensures.block) c.change.ensures.front in
    let still = stands-still bs new before stood front (omega (arith, c.at_or_in_front-self-inside.ensures.order, planned.block.reached, c.change.ensures.there)) in
    counted-new tables new _ _ _ _ text still made.split whole (planned.bytes ∙ ap (λ b. bytes_in (replaced (concat (texts_in b)) from to points)) e) (omega (arith, i.places_is, within, c.requires.order, places, more))
    (omega (arith, i.paragraphs_is, size, begun.within, made.old, made.count)) planned.few

pub returns-clause-text : goal.returns-clause-text
returns-clause-text g c =
    let bs = c.self.inside.blocks.items in
    let view = sym (seen-points (pieces_in bs)) ∙ ap paragraphs_in c.self.view_is in
    let e = c.deref.ensures.value in
    let from = c.args.from in
    let to = c.args.to in
    let points = code_points c.args.text.now in
    let plan = c.in_ok-plan.plan in
    let s = plan.stretch in
    let made = c.in_ok-touched.ensures in
    let planned = c.in_ok-plan.ensures in
    let new = c.change.new.blocks.items in
    let pts = code_points (string_bytes s.text) in
    let text = replaced (concat (texts_in bs)) from to points in
    let whole : concat (texts_in new) ≡ text = made.text ∙ ap (λ b. text_with (texts_in b) s.from s.to pts) (sym e) ∙ planned.text ∙ ap (λ b. replaced (concat (texts_in b)) from to points) e in
    ap concat (seen-points (pieces_in new)) ∙ whole ∙ ap (λ k. replaced (concat k) from to points) view

pub returns-clause-split : goal.returns-clause-split
returns-clause-split g c =
    let tables = c.args.tables.now in
    let made = c.in_ok-touched.ensures in
    let new = c.change.new.blocks.items in
    subst (IsSplit tables) (sym (seen-points (pieces_in new))) made.split

pub returns-clause-touched : goal.returns-clause-touched
returns-clause-touched g c =
    let bs = c.self.inside.blocks.items in
    let view = sym (seen-points (pieces_in bs)) ∙ ap paragraphs_in c.self.view_is in
    let e = c.deref.ensures.value in
    let is = ap texts_in e ∙ view in
    let from = c.args.from in
    let to = c.args.to in
    let plan = c.in_ok-plan.plan in
    let s = plan.stretch in
    let t = c.in_ok-touched.touched in
    let made = c.in_ok-touched.ensures in
    let planned = c.in_ok-plan.ensures in
    let begun = planned.stretch.begun in
    let m = made.made in
    record {
      made = m.0;
      paragraphs = m.2 ∙ ap (λ v. take s.from v ++ (map anew m.0 ++ drop s.to v)) c.self.view_is ∙ ap₂ (λ j k. take j c.args.self.now ++ (map anew m.0 ++ drop k c.args.self.now)) (sym made.first) (sym made.old);
      count = m.1;
      some = omega (arith, made.first, made.old, begun.order);
      first = subst (λ k. IsParagraphOf k from t.first ⊎ IsParagraphOf k from (t.first + 1)) is (subst (λ n. IsParagraphOf (texts_in c.deref.result.now) from n ⊎ IsParagraphOf (texts_in c.deref.result.now) from (n + 1)) (sym made.first) planned.first);
      last = subst (λ k. IsParagraphOf k to (t.first + t.old - 1)) is (subst (λ n. IsParagraphOf (texts_in c.deref.result.now) to (n - 1)) (sym made.old) planned.last);
    }

pub returns-clause-too_long : goal.returns-clause-too_long
returns-clause-too_long g c =
    let bs = c.self.inside.blocks.items in
    let view = sym (seen-points (pieces_in bs)) ∙ ap paragraphs_in c.self.view_is in
    let e = c.deref.ensures.value in
    let is = ap texts_in e ∙ view in
    let bytes = ap (λ k. bytes_in (replaced (concat k) c.args.from c.args.to (code_points c.args.text.now))) is in
    (λ long. absurd (ok-fits _ _ refl long), λ m. absurd (omega (arith, bytes, c.in_ok-plan.ensures.bytes, c.in_ok-plan.ensures.few, m)))
