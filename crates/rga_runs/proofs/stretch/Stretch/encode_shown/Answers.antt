-- The goals of `encode_shown` that are answered by hand.
use Rattle.std.proofs.Common.{◌≡◌, ◌++◌, ◌<◌, ◌∙◌, Some, length, get_or, sym, ap, subst, arith}
use Rattle.std.specs.Prelude.{encode_utf8, slice_get}
use Rattle.std.specs.Str.{IsUtf8}
use Rattle.std.proofs.lemmas.List.{take_all}
use Rattle.std.proofs.lemmas.Str.{IsUtf8-append}
use Rattle.rga_tree.specs.declared.element.Element.{Element}
use Rattle.rga_tree.proofs.Interface.{bytes_of, bytes-hidden, bytes-visible}
use Rattle.rga_runs.specs.Typed.{later, parent_at, is_odd, bits_from}
use Rattle.rga_runs.specs.Stretches.{characters_of, elements_of}
use Rattle.rga_runs.proofs.Typed.{typed-get}
use Rattle.rga_runs.proofs.Rows.{length-characters, length-elements, some_of_get, stored_is}
use Rattle.rga_runs.proofs.stretch.Stretch.encode_shown.Goals as goal
use Rattle.rga_runs.proofs.stretch.Stretch.encode_shown.Goals.{then-not-hides, else-not-hides}

pub loop-k-preserved : goal.loop-k-preserved
loop-k-preserved c =
    let s = c.args.self.now in
    let chars = c.args.chars.now in
    let cs = characters_of chars s in
    let row = elements_of chars s in
    let k = c.loop-k.k in
    let ch = c.ch-item.result in
    let stored = stored_is (length chars) s c.requires.stored in
    let read = c.characters-ch-items.ensures in
    let inside : k < length cs = omega (arith, c.loop-k-test.true, c.loop-k.auto.k-end, ap length read) in
    let there : k < length row = omega (arith, inside, length-characters chars s stored, length-elements chars s stored) in
    let at : get_or cs k ch ≡ ch = sym (c.ch-item.is ∙ ap (λ l. get_or l k ch) read) in
    let e : Element = record { id = later s.first k; parent = parent_at s.first s.parent k; ch = ch; hidden = is_odd (bits_from k s.hidden) } in
    let item : slice_get row k ≡ Some e = typed-get s.first s.parent s.hidden cs k ch inside ∙ ap (λ n. Some (record e { ch = n })) at in
    let is : e ≡ get_or row k e = sym (some_of_get row k e e item) in
    let before = c.loop-k.invariant in
    elim c.if-not-hides.branch [
      | then-not-hides w ↦
          let put = w.put_char-end.ensures in
          rw (w.end-is, w.bytes-is) (
            omega (arith, before.0, put.end),
            (
              put.bytes ∙ ap (λ t. t ++ encode_utf8 ch) before.1.0 ∙ sym (bytes-visible row k e there is (sym c.hides.ensures ∙ w.if-not-hides.true)),
              subst IsUtf8 (sym put.bytes) (IsUtf8-append _ _ before.1.1 put.utf8),
            ),
          )
      | else-not-hides w ↦
          rw (w.end-is, w.bytes-is) (
            omega (arith, before.0),
            (before.1.0 ∙ sym (bytes-hidden row k e there is (sym c.hides.ensures ∙ w.if-not-hides.false)), before.1.1),
          )
    ]

pub returns-clause-bytes : goal.returns-clause-bytes
returns-clause-bytes c =
    let s = c.args.self.now in
    let chars = c.args.chars.now in
    let row = elements_of chars s in
    let k = c.loop-k.k in
    let stored = stored_is (length chars) s c.requires.stored in
    let long = length-characters chars s stored in
    c.loop-k.invariant.1.0 ∙ ap bytes_of (take_all k row (omega (arith, length-elements chars s stored, long, c.loop-k-test.false, c.loop-k.auto.k-end, ap length c.characters-ch-items.ensures)))
