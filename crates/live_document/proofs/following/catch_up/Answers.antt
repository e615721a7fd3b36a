-- The paragraphs are those of the text, as they were or made anew.
use Rattle.std.proofs.Common.{sym, ap, ◌∙◌, arith}
use Rattle.std.proofs.lemmas.Str.{chars_from_encodes}
use Rattle.rga_tree.specs.TextOf.{text}
use Rattle.text_buffer.specs.Buffers.{paragraphs_in}
use Rattle.live_document.specs.Keeping.{weight_held}
use Rattle.live_document.proofs.Forgotten.{held-anew}
use Rattle.live_document.proofs.following.catch_up.Goals as goal

pub returns-clause-text : goal.returns-clause-text
returns-clause-text c =
    c.in_ok-buffer.ensures.text
    ∙ sym (chars_from_encodes (text c.args.desk.now.set) c.as_str.result.now c.as_str.utf8 (sym (c.as_str.ensures.value ∙ c.in_ok-text.ensures.ok)))

pub returns-clause-kept : goal.returns-clause-kept
returns-clause-kept c = λ width base at. c.in_ok-buffer.ensures.kept width base at.at_least at.at_most

pub returns-clause-held : goal.returns-clause-held
returns-clause-held c = let none = ap weight_held c.in_ok-buffer.ensures.nothing ∙ held-anew (paragraphs_in c.in_ok-buffer.field-0) in omega (arith, none)
