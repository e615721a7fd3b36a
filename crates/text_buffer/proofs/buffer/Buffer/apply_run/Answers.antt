-- A run is an edit.
use Rattle.std.proofs.Common.{Err, take, drop, sym, ap, subst, ◌∙◌, arith}
use Rattle.std.proofs.lemmas.List.{take-append-drop}
use Rattle.std.proofs.lemmas.Result.{err_from_is_err_and}
use Rattle.std.specs.Prelude.{string_bytes}
use Rattle.std.specs.List.{concat}
use Rattle.paragraphs.specs.Text.{code_points}
use Rattle.text_buffer.specs.Buffers.{bytes_in, text_in, paragraphs_in}
use Rattle.text_buffer.specs.Blocks.{pieces_in}
use Rattle.text_buffer.specs.Edits.{replaced, AreInRange}
use Rattle.text_buffer.proofs.Counted.{fault-of}
use Rattle.text_buffer.proofs.Places.{seen-points}
use Rattle.text_buffer.proofs.Sums.{places-few}
use Rattle.text_buffer.proofs.Runs.{begins-low, run-edit, range-later}
use Rattle.text_buffer.proofs.buffer.Buffer.apply_run.Goals as goal

pub first_run-requires-clause-low : goal.first_run-requires-clause-low
first_run-requires-clause-low g c =
    let view = ap (λ k. bytes_in (concat k)) (sym (seen-points (pieces_in c.self.inside.blocks.items)) ∙ ap paragraphs_in c.self.view_is) in
    begins-low c.args.changes.now (text_in c.args.self.now) c.requires.places (omega (arith, view, c.self.invariant.bytes_is, c.self.invariant.few, places-few (text_in c.args.self.now)))

pub edit-requires-clause-within : goal.edit-requires-clause-within
edit-requires-clause-within g c =
    let run = c.in_ok-first.first in
    let made = c.in_ok-first.ensures in
    (run-edit c.args.changes.now (text_in c.args.self.now) run.from run.to run.count (code_points (string_bytes run.text)) made.some made.within made.order made.run c.requires.places).0

pub returns-in_err-edit-clause-too_long : goal.returns-in_err-edit-clause-too_long
returns-in_err-edit-clause-too_long g c = λ long.
    let run = c.in_ok-first.first in
    let made = c.in_ok-first.ensures in
    let old = text_in c.args.self.now in
    let is = run-edit c.args.changes.now old run.from run.to run.count (code_points (string_bytes run.text)) made.some made.within made.order made.run c.requires.places in
    let p = err_from_is_err_and c.from_residual-in_err-edit.result c.from_residual-in_err-edit.ensures.1 in
    let more = c.in_err-edit.ensures.too_long.0 (ap Err (fault-of _ _ (sym (p.1 ∙ ap Err p.2) ∙ long))) in
    let bytes = ap (λ b. bytes_in (replaced old run.from run.to (code_points b))) c.deref.ensures in
    (run.count, made.some, made.within, omega (arith, more, bytes, ap bytes_in is.1))

pub returns-clause-text : goal.returns-clause-text
returns-clause-text g c =
    let run = c.in_ok-first.first in
    let made = c.in_ok-first.ensures in
    let old = text_in c.args.self.now in
    let is = run-edit c.args.changes.now old run.from run.to run.count (code_points (string_bytes run.text)) made.some made.within made.order made.run c.requires.places in
    c.in_ok-edit.ensures.text ∙ ap (λ b. replaced old run.from run.to (code_points b)) c.deref.ensures ∙ sym is.1

pub returns-clause-places : goal.returns-clause-places
returns-clause-places g c =
    let run = c.in_ok-first.first in
    let made = c.in_ok-first.ensures in
    let changes = c.args.changes.now in
    let old = text_in c.args.self.now in
    let is = run-edit changes old run.from run.to run.count (code_points (string_bytes run.text)) made.some made.within made.order made.run c.requires.places in
    let text = c.in_ok-edit.ensures.text ∙ ap (λ b. replaced old run.from run.to (code_points b)) c.deref.ensures ∙ sym is.1 in
    subst (λ t. AreInRange t (drop run.count changes)) (sym text)
    (range-later (take run.count changes) (drop run.count changes) old (subst (AreInRange old) (sym (take-append-drop run.count changes)) c.requires.places))

pub returns-clause-touched : goal.returns-clause-touched
returns-clause-touched g c =
    let run = c.in_ok-first.first in
    record { step = record { from = run.from; to = run.to; points = code_points (string_bytes run.text); touched = _ }; is = c.in_ok-first.ensures.run; whole = c.in_ok-first.ensures.whole; touched = c.in_ok-edit.ensures.touched }
