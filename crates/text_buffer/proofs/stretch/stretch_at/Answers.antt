-- The first text of all begins at a cut, and so does one that begins as its first paragraph did. Else it does with the paragraph
-- in front or behind it.
use Rattle.std.proofs.Common.{◌<◌, length, sym, subst, arith, ◌≡◌, ◌+◌, ◌-◌, ◌++◌, inr, ap, ap₂, ◌∙◌}
use Rattle.std.proofs.lemmas.Str.{chars-append}
use Rattle.unicode_tables.specs.Tables.{bidi_of}
use Rattle.paragraphs.specs.Text.{code_points}
use Rattle.paragraphs.specs.Paragraphs.{meets_at_cut}
use Rattle.std.specs.Prelude.{string_bytes}
use Rattle.text_buffer.specs.Blocks.{texts_in}
use Rattle.text_buffer.specs.Stretches.{IsBegun, text_with}
use Rattle.text_buffer.proofs.Splits.{utf8-kept, split-parts}
use Rattle.text_buffer.proofs.Begun.{begun-first, begun-own, begun-alone, begun-joined, text-joined_front}
use Rattle.text_buffer.proofs.Chars.{some-points}
use Rattle.text_buffer.proofs.stretch.stretch_at.Goals as goal
use Rattle.text_buffer.proofs.stretch.stretch_at.Goals.{then-first-eq0-via-then-first-eq0, then-first-eq0-via-else-first-eq0+then-first-gt0}

pub returns-then-first-eq0-clause-begun : goal.returns-then-first-eq0-clause-begun
returns-then-first-eq0-clause-begun g c =
    let kept = texts_in c.args.blocks.now in
    let tables = c.args.tables.now in
    let is = split-parts tables kept (utf8-kept c.args.blocks.now) c.requires.split in
    let first = c.args.first.now in
    let t = code_points (string_bytes c.args.text) in
    let f = code_points first.front.now in
    elim c.then-first-eq0.branch [
      | then-first-eq0-via-then-first-eq0 w ↦ subst (λ n. IsBegun tables kept n c.args.to t) (sym w.if-first-eq0.true) (begun-first tables kept is c.args.to t (omega (arith, c.requires.order)) c.requires.within)
      | then-first-eq0-via-else-first-eq0+then-first-gt0 w ↦
          let some : 0 < length f = omega (arith, w.if-first-gt0.true, c.requires.offset) in
          subst (IsBegun tables kept first.number c.args.to) (sym c.requires.begins.1) (begun-own tables kept is first.number c.args.to f (code_points first.back.now) c.requires.begins.0 c.requires.order c.requires.within c.requires.own some)
    ]

pub returns-then-meets_at_cut-clause-begun : goal.returns-then-meets_at_cut-clause-begun
returns-then-meets_at_cut-clause-begun g c =
    let kept = texts_in c.args.blocks.now in
    let tables = c.args.tables.now in
    let is = split-parts tables kept (utf8-kept c.args.blocks.now) c.requires.split in
    let i = c.args.first.now.number - 1 in
    let next : i + 1 ≡ c.args.first.now.number = omega (arith, c.if-first-eq0.false) in
    let t = code_points (string_bytes c.args.text) in
    let some = some-points c.args.text (sym c.if-not-is_empty.ensures) in
    let met = sym (ap₂ (meets_at_cut (bidi_of tables)) (ap code_points c.as_str-before.ensures.value ∙ c.piece_of.ensures) (ap code_points c.deref.ensures)) ∙ sym c.if-meets_at_cut.ensures in
    subst (λ n. IsBegun tables kept n c.args.to t) next (begun-alone tables kept is i c.args.to t (omega (arith, next, c.requires.order)) c.requires.within some met)

pub returns-clause-begun : goal.returns-clause-begun
returns-clause-begun g c =
    let kept = texts_in c.args.blocks.now in
    let tables = c.args.tables.now in
    let is = split-parts tables kept (utf8-kept c.args.blocks.now) c.requires.split in
    let i = c.args.first.now.number - 1 in
    let next : i + 1 ≡ c.args.first.now.number = omega (arith, c.if-first-eq0.false) in
    let t = code_points (string_bytes c.args.text) in
    let whole = ap code_points c.in_ok-joined_text.ensures ∙ chars-append c.as_str-before.result.now c.deref-2.result.now c.as_str-before.utf8
    ∙ ap₂ (λ x y. x ++ y) (ap code_points c.as_str-before.ensures.value ∙ c.piece_of.ensures) (ap code_points c.deref-2.ensures) in
    subst (λ x. IsBegun tables kept i c.args.to x) (sym whole) (begun-joined tables kept is i c.args.to t (omega (arith, next, c.requires.order)) c.requires.within)

pub returns-clause-text : goal.returns-clause-text
returns-clause-text g c =
    let kept = texts_in c.args.blocks.now in
    let i = c.args.first.now.number - 1 in
    let next : i + 1 ≡ c.args.first.now.number = omega (arith, c.if-first-eq0.false) in
    let t = code_points (string_bytes c.args.text) in
    let whole = ap code_points c.in_ok-joined_text.ensures ∙ chars-append c.as_str-before.result.now c.deref-2.result.now c.as_str-before.utf8
    ∙ ap₂ (λ x y. x ++ y) (ap code_points c.as_str-before.ensures.value ∙ c.piece_of.ensures) (ap code_points c.deref-2.ensures) in
    ap (text_with kept i c.args.to) whole ∙ text-joined_front kept i c.args.to t (omega (arith, next, c.requires.order, c.requires.within)) ∙ ap (λ n. text_with kept n c.args.to t) next

pub returns-clause-from : goal.returns-clause-from
returns-clause-from g c = inr (omega (arith, c.if-first-eq0.false))

pub returns-clause-ends : goal.returns-clause-ends
returns-clause-ends g c =
    let whole = ap code_points c.in_ok-joined_text.ensures ∙ chars-append c.as_str-before.result.now c.deref-2.result.now c.as_str-before.utf8 in
    (code_points c.as_str-before.result.now, whole ∙ ap (λ t. code_points c.as_str-before.result.now ++ t) (ap code_points c.deref-2.ensures))
