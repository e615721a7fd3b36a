-- One code point at a time.
use Rattle.std.proofs.Common.{ℕ, ◌++◌, ◌+◌, length, drop, chars, encode_utf8, map-id, ap, sym, subst, ◌∙◌, append_assoc}
use Rattle.std.proofs.lemmas.Iterator.{YieldsList-from_chars}
use Rattle.std.proofs.lemmas.Iterator.Consumers.{YieldsList-so_far, YieldsList-turn, YieldsList-end}
use Rattle.std.specs.Str.Iter.{chars_rest}
use Rattle.reorder.specs.Mirrored.{mirrored_of}
use Rattle.cell_grid.specs.Held.{AppendsAllBut}
use Rattle.cell_grid.proofs.HeldEnd.{but-start, but-on, but-cut}
use Rattle.cell_grid.proofs.Writing.{on_err, shown, shown-on, shown-split}
use Rattle.cell_grid.proofs.printed.hold_mirrored.Goals as goal

pub loop-c-init : goal.loop-c-init
loop-c-init g c = record { working = c.requires.working; so_far = but-start (g.W.Sink.written c.args.sink.now) c.args.held.now.bytes }

pub loop-c-preserved : goal.loop-c-preserved
loop-c-preserved g c =
    let f : ℕ → ℕ = λ x. mirrored_of c.args.tables.now x c.args.level in
    let before = c.args.held.now.bytes in
    let done = shown f c.loop-c.yielded in
    let more = encode_utf8 c.mirrored.result in
    record {
      working = c.in_ok-hold_char.ensures.failed;
      so_far =
          but-on _ _ _ (before ++ done) _ c.loop-c.invariant.so_far more _ _ c.in_ok-hold_char.ensures.ok
          (ap (λ t. before ++ t) (shown-on f c.loop-c.yielded c.in-Some.c ∙ ap (λ t. done ++ t) (sym (ap encode_utf8 c.mirrored.ensures)))
          ∙ sym (append_assoc before done more));
    }

pub returns-in_err-hold_char-clause-err : goal.returns-in_err-hold_char-clause-err
returns-in_err-hold_char-clause-err g c =
    let f : ℕ → ℕ = λ x. mirrored_of c.args.tables.now x c.args.level in
    let before = c.args.held.now.bytes in
    let done = shown f c.loop-c.yielded in
    let more = encode_utf8 c.mirrored.result in
    let rest = shown f (drop (length c.loop-c.yielded + 1) (chars c.args.cluster.now)) in
    let list = YieldsList-from_chars c.args.cluster.now c.utf8.cluster (ap chars_rest c.into_iter-c-iterator.ensures.into_iter_gives ∙ c.chars-c-items.ensures.rest) in
    let turn = YieldsList-turn list c.loop-c.yielded _ c.loop-c.yielded_by _ _ c.in-Some.c c.in-Some.is c.next.ensures.steps in
    let so_far = YieldsList-so_far list c.loop-c.yielded _ c.loop-c.yielded_by in
    on_err c.from_residual.result
    (but-cut _ _ _ (before ++ done) _ c.loop-c.invariant.so_far more rest _ c.in_err-hold_char.ensures.err
    (ap (λ t. before ++ t)
    (shown-split f (chars c.args.cluster.now) c.loop-c.yielded c.in-Some.c so_far turn.0 turn.1
    ∙ ap (λ t. done ++ (t ++ rest)) (sym (ap encode_utf8 c.mirrored.ensures)))
    ∙ sym (append_assoc before done (more ++ rest))))

pub returns-clause-ok : goal.returns-clause-ok
returns-clause-ok g c =
    let f : ℕ → ℕ = λ x. mirrored_of c.args.tables.now x c.args.level in
    let list = YieldsList-from_chars c.args.cluster.now c.utf8.cluster (ap chars_rest c.into_iter-c-iterator.ensures.into_iter_gives ∙ c.chars-c-items.ensures.rest) in
    let end = YieldsList-end list c.loop-c.yielded _ c.loop-c.yielded_by _ _ c.in-None.is c.next.ensures.steps in
    subst (λ l. AppendsAllBut (g.W.Sink.written c.args.sink.now) (g.W.Sink.written c.loop-c.sink) (c.args.held.now.bytes ++ shown f l) c.loop-c.held.bytes)
    (sym (map-id c.loop-c.yielded) ∙ end.0) c.loop-c.invariant.so_far
