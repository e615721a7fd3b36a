-- A text that ends with no separator ends at no cut, where nothing follows it.
use Rattle.std.proofs.Common.{length, sym, ap, ◌∙◌, arith}
use Rattle.std.proofs.lemmas.Bool.{eqb-true}
use Rattle.std.proofs.lemmas.List.{nil_from_length}
use Rattle.unicode_tables.specs.Tables.{bidi_of}
use Rattle.paragraphs.specs.Text.{code_points}
use Rattle.paragraphs.specs.Paragraphs.{meets_at_cut}
use Rattle.text_buffer.proofs.Chars.{points-none}
use Rattle.text_buffer.proofs.stretch.ends_with_separator.Goals as goal

pub returns-then-is_empty : goal.returns-then-is_empty
returns-then-is_empty c = λ _ some.
    let empty = nil_from_length c.args.text.now (eqb-true _ _ (sym c.if-is_empty.ensures)) in
    absurd (omega (arith, some, ap (λ t. length (code_points t)) empty, ap length points-none))

pub returns : goal.returns
returns c = λ no _.
    ap (meets_at_cut (bidi_of c.args.tables.now) (code_points c.args.text.now)) (sym points-none) ∙ sym c.meets_at_cut.ensures ∙ no
