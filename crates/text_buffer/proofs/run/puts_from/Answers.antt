-- One change more puts a character behind them.
use Rattle.std.proofs.Common.{[], length, refl, sym, ap, subst, ◌∙◌, arith}
use Rattle.std.proofs.lemmas.List.{append-nil, take_all}
use Rattle.std.specs.Prelude.{string_bytes}
use Rattle.paragraphs.specs.Text.{code_points}
use Rattle.bg_types.specs.declared.change.Change.TheVariants.{Put}
use Rattle.text_buffer.specs.Runs.{ArePut}
use Rattle.text_buffer.proofs.Runs.{put-more}
use Rattle.text_buffer.proofs.run.puts_from.Goals as goal

pub loop-count-init : goal.loop-count-init
loop-count-init c = record { points = []; puts = refl; text = sym (append-nil (code_points (string_bytes c.args.text.now))) }

pub loop-count-preserved : goal.loop-count-preserved
loop-count-preserved c =
    put-more c.args.changes.now c.loop-count.count c.args.place _ _ _ _ c.in-Put.ch (omega (arith, c.loop-count-test.true, c.loop-count.auto.count-end)) c.loop-count.invariant
    (c.in-Put.is ∙ ap (λ p. Put p c.in-Put.ch) c.if-at-place.true) c.in_ok-add-in-Put.ensures

pub returns-clause-puts : goal.returns-clause-puts
returns-clause-puts c =
    let changes = c.args.changes.now in
    subst (λ t. ArePut t c.args.place (code_points (string_bytes c.args.text.now)) (code_points (string_bytes c.loop-count.text)))
    (take_all c.loop-count.count changes (omega arith) ∙ sym (take_all (length changes) changes (omega arith))) c.loop-count.invariant
