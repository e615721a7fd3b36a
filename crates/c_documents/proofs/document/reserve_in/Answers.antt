-- The desk has as many operations to spare, and all else is as it was.
use Rattle.std.proofs.Common.{refl}
use Rattle.c_documents.proofs.Reserved.{paid_for}
use Rattle.c_documents.proofs.document.reserve_in.Goals as goal

pub returns-in-Ok-clause-ok : goal.returns-in-Ok-clause-ok
returns-in-Ok-clause-ok c =
    let e = c.in-Ok.ensures in
    λ _. record {
      document = paid_for c.args.held.now.document c.reserve.new.self c.args.operations e.set e.site e.waiting e.ok e.drawn e.paragraphs e.behind e.window e.laid;
      alike = record { told = refl; lost = refl };
    }
