-- The characters are counted.
use Rattle.std.proofs.Common.{◌≡◌, rules, length, sym, ap, ◌∙◌}
use Rattle.std.proofs.lemmas.Str.{chars_from_encodes}
use Rattle.paragraphs.specs.Text.{code_points}
use Rattle.text_buffer.proofs.piece.Piece.of.Goals as goal

pub holding-requires : goal.holding-requires
holding-requires g c =
    let count : c.count-places.result ≡ length (code_points c.args.text.now) = search (rules, chars_from_encodes) in
    count ∙ ap (λ t. length (code_points t)) (sym c.in_ok-from_str.ensures.ok)
