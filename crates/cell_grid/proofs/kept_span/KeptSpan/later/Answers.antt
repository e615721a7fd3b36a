-- What begins within a text fits in the words.
use Rattle.std.proofs.Common.{arith}
use Rattle.cell_grid.proofs.KeptSpans.{begins}
use Rattle.cell_grid.proofs.kept_span.KeptSpan.later.Goals as goal

pub high-requires-clause-number : goal.high-requires-clause-number
high-requires-clause-number c = let h = begins c.args.bytes c.args.places c.args.self c.requires in omega (arith, h.byte, c.whole.ensures)

pub high-requires-2-clause-number : goal.high-requires-2-clause-number
high-requires-2-clause-number c = let h = begins c.args.bytes c.args.places c.args.self c.requires in omega (arith, h.place, c.whole-2.ensures)
