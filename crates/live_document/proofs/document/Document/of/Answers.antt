-- The paragraphs are behind the desk.
use Rattle.std.proofs.Common.{ap, subst, ◌∙◌, arith}
use Rattle.unicode_tables.specs.Tables.{TableValues}
use Rattle.text_buffer.specs.Buffers.{paragraphs_in}
use Rattle.live_document.specs.Keeping.{weight_held, IsKeptAt}
use Rattle.live_document.proofs.Followed.{live-behind}
use Rattle.live_document.proofs.Forgotten.{held-anew}
use Rattle.live_document.proofs.document.Document.of.Goals as goal

pub invariant_of-result-2 : goal.invariant_of-result-2
invariant_of-result-2 c =
    let kept = c.in_ok-buffer.buffer in
    let width = c.args.width in
    let base = c.args.base in
    let held = ap weight_held c.in_ok-buffer.ensures.nothing ∙ held-anew (paragraphs_in kept) in
    live-behind c.args.desk c.args.tables.value width base kept 0
    (subst (λ (tables : TableValues). IsKeptAt tables width base kept) c.deref.ensures (c.in_ok-buffer.ensures.kept width base c.requires.at_least c.requires.at_most))
    (omega (arith, held)) (omega arith)
