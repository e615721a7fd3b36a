-- What is held is what was printed.
use Rattle.std.proofs.Common.{Some, sym, ap, subst, ◌∙◌}
use Rattle.std.specs.Prelude.{Option}
use Rattle.std.specs.Option.{IfSome}
use Rattle.cell_grid.specs.Print.{printed}
use Rattle.live_document.specs.Documents.{shown_grid}
use Rattle.c_answers.specs.Copying.{IsPrinted}
use Rattle.c_documents.specs.declared.told_document.ToldDocument.{ToldDocument}
use Rattle.bidigrid_c.proofs.window_prints.bidigrid_document_print.Goals as goal

pub returns-clause-written : goal.returns-clause-written
returns-clause-written c =
    let it = c.tell_print-answer in
    subst (λ (o : Option ToldDocument). IfSome o (λ d. IsPrinted (printed (shown_grid d.document)) c.args.out.now it.new.out it.new.size it.result))
    (ap Some c.deref.ensures ∙ sym c.in-Some.ensures.taken) it.ensures
