-- The row is found, and then its neighbours.
use Rattle.std.proofs.Common.{refl}
use Rattle.caret.specs.Moves.{down_of}
use Rattle.c_documents.proofs.Found.{moved}
use Rattle.c_documents.proofs.document_carets.move_down.Goals as goal

pub returns-in-Ok-down-clause-ok : goal.returns-in-Ok-down-clause-ok
returns-in-Ok-down-clause-ok c =
    let found = c.standing.new.held in
    let row = c.in-Ok.ensures in
    let near = c.in-Ok-down.ensures in
    λ _. moved down_of c.args.held.now found (record found { document = c.down.new.self }) c.args.position.now c.position_numbers.result c.in-Ok.from c.in-Ok-down.moved row.is row.stands row.found row.rows row.asked
    near.position (record { desk = near.desk; drawn = near.drawn; alike = record { told = refl; lost = refl } }) near.window near.laid c.position_numbers.ensures
