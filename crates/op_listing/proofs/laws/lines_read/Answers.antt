-- The goals of `lines_read` that are answered by hand.
use Rattle.op_listing.proofs.FirstFault.{begin, more, faulty, end}
use Rattle.op_listing.proofs.laws.lines_read.Goals as goal

pub returns-clause-begin : goal.returns-clause-begin
returns-clause-begin g c = begin

pub returns-clause-more : goal.returns-clause-more
returns-clause-more g c = more

pub returns-clause-faulty : goal.returns-clause-faulty
returns-clause-faulty g c = faulty

pub returns-clause-end : goal.returns-clause-end
returns-clause-end g c = end
