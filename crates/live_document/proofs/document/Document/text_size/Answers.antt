-- Unless they are behind, the paragraphs are the desk's text.
use Rattle.std.proofs.Common.{ℕ, List, length, encode_utf8_all, ap, ◌∙◌}
use Rattle.rga_tree.specs.TextOf.{text}
use Rattle.live_document.specs.Documents.{LiveDocument}
use Rattle.live_document.proofs.document.Document.text_size.Goals as goal

pub returns-clause-size : goal.returns-clause-size
returns-clause-size c =
    c.bytes.ensures.bytes
    ∙ ap (λ (points : List ℕ). length (encode_utf8_all points)) (c.self.invariant.text_is c.if-self.false)
    ∙ ap (λ (d : LiveDocument). length (encode_utf8_all (text d.desk.set))) c.self.view_is
