-- The goals of `range` that are answered by hand.
use Rattle.std.proofs.Common.{sym}
use Rattle.ucd_files.proofs.Codes.{range_of-falling}
use Rattle.ucd_files.proofs.code.range.Goals as goal

pub returns-then-first-last : goal.returns-then-first-last
returns-then-first-last c =
    sym (range_of-falling c.args.field.now c.in_ok-first.first c.in_ok-last.last (cc c.in_ok-first.was) (cc c.in_ok-last.was) c.if-first-last.true)
