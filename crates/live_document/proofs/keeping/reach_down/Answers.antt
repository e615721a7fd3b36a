-- One paragraph more is laid out, behind those that are.
use Rattle.std.proofs.Common.{◌≡◌, ◌+◌, ◌-◌, ◌<◌, ℕ, [], cond, length, get_or, slice_range, refl, sym, ap, ◌∙◌, inr, arith}
use Rattle.std.proofs.lemmas.Bool.{false_from_ne_true}
use Rattle.text_buffer.specs.Buffers.{paragraphs_in}
use Rattle.live_document.specs.Keeping.{flags, is_kept, rows_of_text, rows_of_texts, rows_weight}
use Rattle.cell_grid.proofs.Interface.{on_err}
use Rattle.live_document.proofs.Marks.{marked-none, marked-down, count-down, count-none, rows-down, rows-none, weight-down, weight-none, cond-most}
use Rattle.live_document.proofs.Stretches.{count-texts, count-flags}
use Rattle.live_document.proofs.keeping.reach_down.Goals as goal

pub loop-end-init : goal.loop-end-init
loop-end-init c = record {
  kept = c.requires.kept;
  paragraphs = refl;
  count_is = c.paragraph_count-count.ensures;
  order = omega arith;
  within = omega arith;
  marked = marked-none (flags c.args.buffer.now) c.args.number;
  rows_are = sym (rows-none c.args.tables.now c.args.width c.args.base (paragraphs_in c.args.buffer.now) c.args.number);
  needed = λ h. absurd (omega arith);
  few = omega arith;
  weight_is = sym (weight-none c.args.tables.now c.args.width c.args.base (paragraphs_in c.args.buffer.now) c.args.number);
  most = omega arith;
  held_is = omega arith;
  made_few = omega arith;
  laid_are = sym (count-none (flags c.args.buffer.now) c.args.number);
  laid_few = omega arith;
}

pub loop-end-preserved : goal.loop-end-preserved
loop-end-preserved c =
    let h = c.loop-end.invariant in
    let e = c.in_ok-out.ensures in
    let old = c.args.buffer.now in
    let now = c.loop-end.buffer in
    let end = c.loop-end.end in
    let texts = paragraphs_in old in
    let a = count-texts old in
    let b = count-texts now in
    let d = count-flags old in
    let f = count-flags now in
    let same = ap length h.paragraphs in
    let within : end < length (flags now) = omega arith in
    let many = rows-down c.args.tables.now c.args.width c.args.base texts c.args.number end (omega arith) h.order in
    let heavy = weight-down c.args.tables.now c.args.width c.args.base texts c.args.number end (omega arith) h.order in
    let own = e.rows ∙ ap (λ ts. length (rows_of_text c.args.tables.now c.args.width c.args.base (get_or ts end []))) h.paragraphs in
    let weigh = e.weight ∙ ap (λ ts. rows_weight (rows_of_text c.args.tables.now c.args.width c.args.base (get_or ts end []))) h.paragraphs in
    let marks = count-down (flags old) c.args.number end (omega arith) h.order in
    let laid : c.in_ok-out.out.laid ≡ cond {A = ℕ} (is_kept (flags old) end) 0 1 = e.laid ∙ ap (λ b. cond {A = ℕ} b 0 1) (h.marked.outside end (inr (omega arith))) in
    record {
      kept = e.kept;
      paragraphs = e.paragraphs ∙ h.paragraphs;
      count_is = h.count_is;
      order = omega arith;
      within = omega arith;
      marked = marked-down (flags old) (flags now) (flags c.lay_out.new.buffer) c.args.number end h.marked e.marks within h.order;
      rows_are = omega (arith, h.rows_are, many, own);
      needed = λ before. (let here : (end + 1) - 1 ≡ end = omega arith in let same = ap (λ n. length (rows_of_texts c.args.tables.now c.args.width c.args.base (slice_range texts c.args.number n))) here in omega (arith, h.rows_are, same));
      few = omega (arith, h.few, e.few);
      weight_is = omega (arith, h.weight_is, heavy, weigh);
      most = omega (arith, h.most, e.most);
      held_is = omega (arith, h.held_is, e.held);
      made_few = omega (arith, h.made_few, e.made);
      laid_are = omega (arith, h.laid_are, marks, laid);
      laid_few = omega (arith, h.laid_few, laid, cond-most (is_kept (flags old) end));
    }

pub returns-in_err-out-clause-refused : goal.returns-in_err-out-clause-refused
returns-in_err-out-clause-refused c =
    let h = c.loop-end.invariant in
    let now = c.loop-end.buffer in
    let end = c.loop-end.end in
    let none = sym (h.marked.outside end (inr (omega arith))) ∙ false_from_ne_true (is_kept (flags now) end) (λ there. (let e = c.in_err-out.ensures.enough there in cc)) in
    on_err c.from_residual.result (end, h.order, omega (arith, h.count_is), none, omega (arith, h.rows_are))
