-- The goals of `encode_shown` that are answered by hand.
use Rattle.std.proofs.Common.{◌++◌, sym, ap, ◌∙◌, subst, length, ◌<◌, arith}
use Rattle.std.proofs.lemmas.Str.{IsUtf8-append}
use Rattle.std.specs.Prelude.{encode_utf8}
use Rattle.std.specs.Str.{IsUtf8}
use Rattle.rga_tree.proofs.Texts.{bytes-hidden, bytes-visible}
use Rattle.rga_tree.proofs.shown.encode_shown.Goals as goal
use Rattle.rga_tree.proofs.shown.encode_shown.Goals.{then-not-element, else-not-element}

pub loop-element-preserved : goal.loop-element-preserved
loop-element-preserved c =
    let row = c.args.row.now in
    let j = c.loop-element.element-index in
    let e = c.element-item.result in
    let there : j < length row = c.loop-element-test.true in
    let before = c.loop-element.invariant in
    elim c.if-not-element.branch [
      | then-not-element w ↦
          let put = w.put_char-end.ensures in
          rw (w.end-is, w.bytes-is) (
            omega (arith, before.0, put.end),
            (
              put.bytes ∙ ap (λ t. t ++ encode_utf8 e.ch) before.1.0 ∙ sym (bytes-visible row j e there c.element-item.is w.if-not-element.true),
              subst IsUtf8 (sym put.bytes) (IsUtf8-append _ _ before.1.1 put.utf8),
            ),
          )
      | else-not-element w ↦
          rw (w.end-is, w.bytes-is) (
            omega (arith, before.0),
            (before.1.0 ∙ sym (bytes-hidden row j e there c.element-item.is w.if-not-element.false), before.1.1),
          )
    ]
