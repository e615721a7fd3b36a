-- What is held is what was printed.
use Rattle.std.proofs.Common.{◌≡◌, Some, slice_get, sym, ap, subst, ◌∙◌}
use Rattle.std.specs.Prelude.{Option}
use Rattle.std.specs.Option.{IfSome, MatchOption}
use Rattle.cell_grid.specs.Print.{printed_row}
use Rattle.live_document.specs.Documents.{shown_grid}
use Rattle.c_answers.specs.Copying.{IsLeft, IsPrinted}
use Rattle.c_documents.specs.declared.told_document.ToldDocument.{ToldDocument}
use Rattle.bidigrid_c.proofs.window_prints.bidigrid_document_row_print.Goals as goal

pub returns-clause-written : goal.returns-clause-written
returns-clause-written c =
    let it = c.tell_row_print-answer in
    let number = c.args.number in
    let before = c.args.out.now in
    subst (λ (o : Option ToldDocument). IfSome o (λ d. MatchOption (slice_get d.document.window.rows number) ((it.result ≡ 108) × IsLeft before it.new.out it.new.size)
    (λ _. IsPrinted (printed_row (shown_grid d.document) number) before it.new.out it.new.size it.result)))
    (ap Some c.deref.ensures ∙ sym c.in-Some.ensures.taken) it.ensures
