-- The paragraphs so far.
use Rattle.std.proofs.Common.{◌≡◌, map, take}
use Rattle.paragraphs.specs.Text.{code_points}
use Rattle.paragraphs.specs.Paragraphs.{Paragraph}
use Rattle.text_buffer.specs.Edits.{anew}
use Rattle.text_buffer.specs.Pieces.{seen}
use Rattle.text_buffer.proofs.change.pieces_of.Given as goal

abbrev pub invariant-loop-para : goal.invariant-loop-para
invariant-loop-para g l = map seen l.pieces.items ≡ map anew (map (λ (p : Paragraph). code_points p.text) (take l.para-index l.para-items))
