-- The rows of a paragraph are kept, or are made and kept.
use Rattle.std.proofs.Common.{ℕ, cond, length, sym, ap, ◌∙◌, arith}
use Rattle.live_document.specs.Keeping.{flags, rows_weight}
use Rattle.live_document.proofs.Beside.{held-set, rows_at-kept, flag-kept, flags-set, flags-already, rows_at-laid, kept-set}
use Rattle.live_document.proofs.Windows.{own-text, own-few, own-drawable, few-at}
use Rattle.live_document.proofs.keeping.lay_out.Goals as goal

pub returns-in-Some-clause-marks : goal.returns-in-Some-clause-marks
returns-in-Some-clause-marks c =
    flags-already (flags c.args.buffer.now) c.args.number (flag-kept c.args.buffer.now c.args.number _ c.in-Some.ensures)

pub returns-in-Some-clause-rows : goal.returns-in-Some-clause-rows
returns-in-Some-clause-rows c =
    let kept = c.args.buffer.now in
    let n = c.args.number in
    let flag = flag-kept kept n _ c.in-Some.ensures in
    let same = ap length (sym (rows_at-kept kept n _ c.in-Some.ensures) ∙ rows_at-laid c.args.tables.now c.args.width c.args.base kept c.requires.kept.laid n flag) in
    omega (arith, same, ap length c.as_slice.ensures)

pub returns-in-Some-clause-weight : goal.returns-in-Some-clause-weight
returns-in-Some-clause-weight c =
    let kept = c.args.buffer.now in
    let n = c.args.number in
    let flag = flag-kept kept n _ c.in-Some.ensures in
    c.total.ensures.is
    ∙ ap rows_weight (sym (rows_at-kept kept n _ c.in-Some.ensures) ∙ rows_at-laid c.args.tables.now c.args.width c.args.base kept c.requires.kept.laid n flag)

pub returns-in-Some-clause-most : goal.returns-in-Some-clause-most
returns-in-Some-clause-most c = omega (arith, c.total.ensures.few, ap length c.as_slice.ensures)

pub returns-in-Some-clause-few : goal.returns-in-Some-clause-few
returns-in-Some-clause-few c =
    let kept = c.args.buffer.now in
    let n = c.args.number in
    let flag = flag-kept kept n _ c.in-Some.ensures in
    let same = ap length (sym (rows_at-kept kept n _ c.in-Some.ensures) ∙ rows_at-laid c.args.tables.now c.args.width c.args.base kept c.requires.kept.laid n flag) in
    let few = few-at c.laws_below.ensures c.args.tables.now c.args.width c.args.base kept c.requires.kept c.bytes-bytes.ensures.utf8 (omega (arith, c.bytes-bytes.ensures.bytes, c.bytes-bytes.ensures.few)) n c.requires.number in
    omega (arith, same, few, ap length c.as_slice.ensures)

pub returns-in-Some-clause-laid : goal.returns-in-Some-clause-laid
returns-in-Some-clause-laid c = sym (ap (λ b. cond {A = ℕ} b 0 1) (flag-kept c.args.buffer.now c.args.number _ c.in-Some.ensures))

pub rows-requires-clause-size : goal.rows-requires-clause-size
rows-requires-clause-size c =
    let is = c.paragraph.ensures.paragraph c.args.tables.now c.requires.kept.split in
    let d = own-drawable c.laws_below.ensures c.args.tables.now c.args.width c.args.base c.args.buffer.now c.requires.kept c.bytes-bytes.ensures.utf8 (omega (arith, c.bytes-bytes.ensures.bytes, c.bytes-bytes.ensures.few)) c.args.number _ is in
    omega (arith, d.bytes)

pub returns-clause-kept : goal.returns-clause-kept
returns-clause-kept c =
    let is = c.paragraph.ensures.paragraph c.args.tables.now c.requires.kept.split in
    let own = own-text c.laws_below.ensures c.args.tables.now c.args.width c.args.base c.args.buffer.now c.requires.kept c.bytes-bytes.ensures.utf8 (omega (arith, c.bytes-bytes.ensures.bytes, c.bytes-bytes.ensures.few)) c.args.number _ is in
    kept-set c.args.tables.now c.args.width c.args.base c.args.buffer.now c.keep.new.self c.args.number c.of-made.result c.keep.ensures.paragraphs c.keep.ensures.kept
    (c.of-made.ensures ∙ c.in_ok-made.ensures.rows ∙ sym own) c.requires.kept

pub returns-clause-marks : goal.returns-clause-marks
returns-clause-marks c = flags-set c.args.buffer.now c.keep.new.self c.args.number c.of-made.result c.keep.ensures.kept

pub returns-clause-rows : goal.returns-clause-rows
returns-clause-rows c =
    let is = c.paragraph.ensures.paragraph c.args.tables.now c.requires.kept.split in
    let own = own-text c.laws_below.ensures c.args.tables.now c.args.width c.args.base c.args.buffer.now c.requires.kept c.bytes-bytes.ensures.utf8 (omega (arith, c.bytes-bytes.ensures.bytes, c.bytes-bytes.ensures.few)) c.args.number _ is in
    let same = ap length (c.in_ok-made.ensures.rows ∙ sym own) in
    omega (arith, same, c.len-rows.ensures, c.in_ok-made.made.ok)

pub returns-clause-few : goal.returns-clause-few
returns-clause-few c =
    let is = c.paragraph.ensures.paragraph c.args.tables.now c.requires.kept.split in
    let few = own-few c.laws_below.ensures c.args.tables.now c.args.width c.args.base c.args.buffer.now c.requires.kept c.bytes-bytes.ensures.utf8 (omega (arith, c.bytes-bytes.ensures.bytes, c.bytes-bytes.ensures.few)) c.args.number _ is in
    let same = ap length c.in_ok-made.ensures.rows in
    omega (arith, same, few, c.len-rows.ensures, c.in_ok-made.made.ok)

pub of-made-requires : goal.of-made-requires
of-made-requires c =
    let is = c.paragraph.ensures.paragraph c.args.tables.now c.requires.kept.split in
    let few = own-few c.laws_below.ensures c.args.tables.now c.args.width c.args.base c.args.buffer.now c.requires.kept c.bytes-bytes.ensures.utf8 (omega (arith, c.bytes-bytes.ensures.bytes, c.bytes-bytes.ensures.few)) c.args.number _ is in
    let same = ap length c.in_ok-made.ensures.rows in
    omega (arith, same, few)

pub returns-clause-held : goal.returns-clause-held
returns-clause-held c =
    let more = held-set c.args.buffer.now c.keep.new.self c.args.number c.of-made.result c.keep.ensures.paragraphs c.keep.ensures.kept c.in_default.ensures in
    omega (arith, more, c.total-weight.ensures.is)

pub returns-clause-weight : goal.returns-clause-weight
returns-clause-weight c =
    let is = c.paragraph.ensures.paragraph c.args.tables.now c.requires.kept.split in
    let own = own-text c.laws_below.ensures c.args.tables.now c.args.width c.args.base c.args.buffer.now c.requires.kept c.bytes-bytes.ensures.utf8 (omega (arith, c.bytes-bytes.ensures.bytes, c.bytes-bytes.ensures.few)) c.args.number _ is in
    c.total-weight.ensures.is ∙ ap rows_weight (c.of-made.ensures ∙ c.in_ok-made.ensures.rows ∙ sym own)

pub returns-clause-most : goal.returns-clause-most
returns-clause-most c = omega (arith, c.total-weight.ensures.few, ap length c.of-made.ensures, c.len-rows.ensures, c.in_ok-made.made.ok)

pub returns-clause-laid : goal.returns-clause-laid
returns-clause-laid c = sym (ap (λ b. cond {A = ℕ} b 0 1) (flag-kept c.args.buffer.now c.args.number _ c.in_default.ensures))

pub returns-in_err-made-clause-enough : goal.returns-in_err-made-clause-enough
returns-in_err-made-clause-enough c = λ kept. (let none = flag-kept c.args.buffer.now c.args.number _ c.in_default.ensures in cc)
