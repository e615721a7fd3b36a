-- One paragraph more is laid out, in front of those that are.
use Rattle.std.proofs.Common.{◌≡◌, ◌+◌, ◌-◌, ◌<◌, ℕ, [], cond, length, get_or, slice_range, refl, sym, ap, ◌∙◌, inl, arith}
use Rattle.std.proofs.lemmas.Bool.{false_from_ne_true}
use Rattle.text_buffer.specs.Buffers.{paragraphs_in}
use Rattle.live_document.specs.Keeping.{flags, is_kept, rows_of_text, rows_of_texts, rows_weight}
use Rattle.cell_grid.proofs.Interface.{on_err}
use Rattle.live_document.proofs.Marks.{marked-none, marked-up, count-up, count-none, rows-up, rows-none, weight-up, weight-none, cond-most}
use Rattle.live_document.proofs.Stretches.{count-texts, count-flags}
use Rattle.live_document.proofs.keeping.reach_up.Goals as goal

pub loop-first-init : goal.loop-first-init
loop-first-init c = record {
  kept = c.requires.kept;
  paragraphs = refl;
  order = omega arith;
  marked = marked-none (flags c.args.buffer.now) c.args.number;
  rows_are = sym (rows-none c.args.tables.now c.args.width c.args.base (paragraphs_in c.args.buffer.now) c.args.number);
  needed = λ h. absurd (omega arith);
  few = omega arith;
  weight_is = sym (weight-none c.args.tables.now c.args.width c.args.base (paragraphs_in c.args.buffer.now) c.args.number);
  most = omega arith;
  held_is = omega arith;
  made_few = omega arith;
  laid_are = sym (count-none (flags c.args.buffer.now) c.args.number);
  laid_few = omega arith;
}

pub loop-first-preserved : goal.loop-first-preserved
loop-first-preserved c =
    let h = c.loop-first.invariant in
    let e = c.in_ok-out.ensures in
    let old = c.args.buffer.now in
    let now = c.loop-first.buffer in
    let from = c.loop-first.first in
    let first = c.loop-first.first - 1 in
    let texts = paragraphs_in old in
    let next : from ≡ first + 1 = omega arith in
    let a = count-texts old in
    let b = count-texts now in
    let d = count-flags old in
    let f = count-flags now in
    let same = ap length h.paragraphs in
    let within : first < length (flags now) = omega arith in
    let many = rows-up c.args.tables.now c.args.width c.args.base texts from first c.args.number next (omega arith) (omega arith) in
    let heavy = weight-up c.args.tables.now c.args.width c.args.base texts from first c.args.number next (omega arith) (omega arith) in
    let own = e.rows ∙ ap (λ ts. length (rows_of_text c.args.tables.now c.args.width c.args.base (get_or ts first []))) h.paragraphs in
    let weigh = e.weight ∙ ap (λ ts. rows_weight (rows_of_text c.args.tables.now c.args.width c.args.base (get_or ts first []))) h.paragraphs in
    let marks = count-up (flags old) from first c.args.number next (omega arith) (omega arith) in
    let laid : c.in_ok-out.out.laid ≡ cond {A = ℕ} (is_kept (flags old) first) 0 1 = e.laid ∙ ap (λ b. cond {A = ℕ} b 0 1) (h.marked.outside first (inl (omega arith))) in
    record {
      kept = e.kept;
      paragraphs = e.paragraphs ∙ h.paragraphs;
      order = omega arith;
      marked = marked-up (flags old) (flags now) (flags c.lay_out.new.buffer) from first c.args.number next h.marked e.marks within (omega arith);
      rows_are = omega (arith, h.rows_are, many, own);
      needed = λ before. (let same = ap (λ n. length (rows_of_texts c.args.tables.now c.args.width c.args.base (slice_range texts n c.args.number))) next in omega (arith, h.rows_are, same));
      few = omega (arith, h.few, e.few);
      weight_is = omega (arith, h.weight_is, heavy, weigh);
      most = omega (arith, h.most, e.most);
      held_is = omega (arith, h.held_is, e.held);
      made_few = omega (arith, h.made_few, e.made);
      laid_are = omega (arith, h.laid_are, marks, laid);
      laid_few = omega (arith, h.laid_few, laid, cond-most (is_kept (flags old) first));
    }

pub returns-in_err-out-clause-refused : goal.returns-in_err-out-clause-refused
returns-in_err-out-clause-refused c =
    let h = c.loop-first.invariant in
    let old = c.args.buffer.now in
    let now = c.loop-first.buffer in
    let first = c.loop-first.first - 1 in
    let next : c.loop-first.first ≡ first + 1 = omega arith in
    let rows = ap (λ n. length (rows_of_texts c.args.tables.now c.args.width c.args.base (slice_range (paragraphs_in old) n c.args.number))) next in
    let none = sym (h.marked.outside first (inl (omega arith))) ∙ false_from_ne_true (is_kept (flags now) first) (λ there. (let e = c.in_err-out.ensures.enough there in cc)) in
    on_err c.from_residual.result (first, omega (arith, h.order), none, omega (arith, rows, h.rows_are))
