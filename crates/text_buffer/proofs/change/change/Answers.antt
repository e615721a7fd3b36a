-- The paragraphs of the stretch's text stand in the place of those that it has, and the text is split as before.
use Rattle.std.proofs.Common.{◌++◌, length, take, drop, map, refl, sym, ap, ◌∙◌, arith}
use Rattle.std.proofs.lemmas.List.{length-append, length-take-le, length-drop}
use Rattle.std.proofs.lemmas.Str.{IsUtf8-string_bytes}
use Rattle.std.specs.Prelude.{string_bytes}
use Rattle.paragraphs.specs.Text.{code_points}
use Rattle.text_buffer.specs.Edits.{anew}
use Rattle.text_buffer.specs.Pieces.{points_in, seen}
use Rattle.text_buffer.specs.Blocks.{pieces_in, texts_in, seen_in}
use Rattle.text_buffer.specs.Stretches.{text_with}
use Rattle.text_buffer.proofs.Places.{length-points, points-put, seen-put}
use Rattle.text_buffer.proofs.Splits.{utf8-kept, split-parts, parts-split, text-of_parts, split-of_parts}
use Rattle.text_buffer.proofs.Counted.{fits-split}
use Rattle.text_buffer.proofs.Edits.{points-anew}
use Rattle.text_buffer.proofs.Made.{made-change}
use Rattle.text_buffer.proofs.change.change.Goals as goal

pub replace-requires-clause-within : goal.replace-requires-clause-within
replace-requires-clause-within g c = omega (arith, c.requires.stretch.begun.within, length-points (pieces_in c.args.blocks.now.items))

pub replace-requires-clause-some : goal.replace-requires-clause-some
replace-requires-clause-some g c =
    let old = c.args.blocks.now.items in
    let s = c.args.stretch in
    let tables = c.args.tables.now in
    let ps = c.in_ok-pieces.pieces.items in
    let is = split-parts tables (texts_in old) (utf8-kept old) c.requires.split in
    let made = made-change tables (texts_in old) s.from s.to c.args.count (code_points (string_bytes s.text)) (string_bytes s.text) (points_in ps) is c.requires.count c.requires.stretch c.requires.some
    (IsUtf8-string_bytes s.text) refl (points-anew ps _ c.in_ok-pieces.ensures) in
    omega (arith, made.some, length-points ps, c.in_ok-pieces.pieces.ok)

pub replace-requires-clause-few : goal.replace-requires-clause-few
replace-requires-clause-few g c =
    let old = c.args.blocks.now.items in
    let s = c.args.stretch in
    let tables = c.args.tables.now in
    let ps = c.in_ok-pieces.pieces.items in
    let is = split-parts tables (texts_in old) (utf8-kept old) c.requires.split in
    let made = made-change tables (texts_in old) s.from s.to c.args.count (code_points (string_bytes s.text)) (string_bytes s.text) (points_in ps) is c.requires.count c.requires.stretch c.requires.some
    (IsUtf8-string_bytes s.text) refl (points-anew ps _ c.in_ok-pieces.ensures) in
    omega (arith, made.bytes, c.requires.new, c.requires.few)

pub replace-requires-clause-paragraphs : goal.replace-requires-clause-paragraphs
replace-requires-clause-paragraphs g c =
    let old = c.args.blocks.now.items in
    let s = c.args.stretch in
    let tables = c.args.tables.now in
    let ps = c.in_ok-pieces.pieces.items in
    let is = split-parts tables (texts_in old) (utf8-kept old) c.requires.split in
    let made = made-change tables (texts_in old) s.from s.to c.args.count (code_points (string_bytes s.text)) (string_bytes s.text) (points_in ps) is c.requires.count c.requires.stretch c.requires.some
    (IsUtf8-string_bytes s.text) refl (points-anew ps _ c.in_ok-pieces.ensures) in
    let n = fits-split tables old c.requires.split c.requires.few in
    omega (arith, made.paragraphs, c.requires.new, n, length-points (pieces_in old), length-points ps, c.in_ok-pieces.pieces.ok)

pub returns-clause-old : goal.returns-clause-old
returns-clause-old g c = omega (arith, c.requires.stretch.begun.order)

pub returns-clause-made : goal.returns-clause-made
returns-clause-made g c =
    let old = c.args.blocks.now.items in
    let s = c.args.stretch in
    let ps = c.in_ok-pieces.pieces.items in
    let xs = points_in ps in
    let made = c.in_ok-pieces.ensures ∙ ap (map anew) (sym (points-anew ps _ c.in_ok-pieces.ensures)) in
    (xs, omega (arith, length-points ps, c.in_ok-pieces.pieces.ok, c.len.ensures), ap (map seen) c.in_ok-replace.ensures.ok ∙ seen-put (pieces_in old) ps s.from s.to ∙ ap (λ t. take s.from (seen_in old) ++ (t ++ drop s.to (seen_in old))) made)

pub returns-clause-text : goal.returns-clause-text
returns-clause-text g c =
    let old = c.args.blocks.now.items in
    let s = c.args.stretch in
    let tables = c.args.tables.now in
    let ps = c.in_ok-pieces.pieces.items in
    let is = split-parts tables (texts_in old) (utf8-kept old) c.requires.split in
    let made = made-change tables (texts_in old) s.from s.to c.args.count (code_points (string_bytes s.text)) (string_bytes s.text) (points_in ps) is c.requires.count c.requires.stretch c.requires.some
    (IsUtf8-string_bytes s.text) refl (points-anew ps _ c.in_ok-pieces.ensures) in
    let new = ap points_in c.in_ok-replace.ensures.ok ∙ points-put (pieces_in old) ps s.from s.to in
    text-of_parts tables _ (text_with (texts_in old) s.from s.to (code_points (string_bytes s.text))) (new ∙ made.parts_is)

pub returns-clause-split : goal.returns-clause-split
returns-clause-split g c =
    let old = c.args.blocks.now.items in
    let s = c.args.stretch in
    let tables = c.args.tables.now in
    let ps = c.in_ok-pieces.pieces.items in
    let is = split-parts tables (texts_in old) (utf8-kept old) c.requires.split in
    let made = made-change tables (texts_in old) s.from s.to c.args.count (code_points (string_bytes s.text)) (string_bytes s.text) (points_in ps) is c.requires.count c.requires.stretch c.requires.some
    (IsUtf8-string_bytes s.text) refl (points-anew ps _ c.in_ok-pieces.ensures) in
    let new = ap points_in c.in_ok-replace.ensures.ok ∙ points-put (pieces_in old) ps s.from s.to in
    let now = c.replace.new.blocks.items in
    parts-split tables (texts_in now) (utf8-kept now) (split-of_parts tables _ (text_with (texts_in old) s.from s.to (code_points (string_bytes s.text))) (new ∙ made.parts_is))

pub returns-clause-count : goal.returns-clause-count
returns-clause-count g c =
    let old = c.args.blocks.now.items in
    let s = c.args.stretch in
    let ps = c.in_ok-pieces.pieces.items in
    let kept = pieces_in old in
    let size = ap length c.in_ok-replace.ensures.ok in
    omega (
      arith,
      size,
      length-append (take s.from kept) (ps ++ drop s.to kept),
      length-append ps (drop s.to kept),
      length-take-le s.from kept (omega (arith, c.requires.stretch.begun.order, c.requires.stretch.begun.within, length-points kept)),
      length-drop s.to kept,
      length-points kept,
      length-points (pieces_in c.replace.new.blocks.items),
      c.requires.count,
      c.requires.stretch.begun.order,
      c.requires.stretch.begun.within,
      c.in_ok-pieces.pieces.ok,
      c.len.ensures,
    )

pub returns-in_err-replace-clause-there : goal.returns-in_err-replace-clause-there
returns-in_err-replace-clause-there g c = omega (arith, ap length c.in_err-replace.ensures.err, length-points (pieces_in c.args.blocks.now.items), c.requires.stretch.begun.order, c.requires.stretch.begun.within)

pub returns-in_err-pieces-clause-there : goal.returns-in_err-pieces-clause-there
returns-in_err-pieces-clause-there g c = omega (arith, length-points (pieces_in c.args.blocks.now.items), c.requires.stretch.begun.order, c.requires.stretch.begun.within)

pub returns-clause-there : goal.returns-clause-there
returns-clause-there g c =
    let old = c.args.blocks.now.items in
    let s = c.args.stretch in
    let ps = c.in_ok-pieces.pieces.items in
    let tables = c.args.tables.now in
    let is = split-parts tables (texts_in old) (utf8-kept old) c.requires.split in
    let made = made-change tables (texts_in old) s.from s.to c.args.count (code_points (string_bytes s.text)) (string_bytes s.text) (points_in ps) is c.requires.count c.requires.stretch c.requires.some
    (IsUtf8-string_bytes s.text) refl (points-anew ps _ c.in_ok-pieces.ensures) in
    let kept = pieces_in old in
    let size = ap length c.in_ok-replace.ensures.ok in
    omega (
      arith,
      size,
      length-append (take s.from kept) (ps ++ drop s.to kept),
      length-append ps (drop s.to kept),
      length-take-le s.from kept (omega (arith, c.requires.stretch.begun.order, c.requires.stretch.begun.within, length-points kept)),
      length-drop s.to kept,
      length-points kept,
      made.some,
      length-points ps,
      c.requires.stretch.begun.order,
      c.requires.stretch.begun.within,
      c.in_ok-pieces.pieces.ok,
      c.len.ensures,
    )
