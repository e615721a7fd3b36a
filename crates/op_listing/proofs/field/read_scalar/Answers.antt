-- The goals of `read_scalar` that are answered by hand.
use Rattle.std.proofs.Common.{◌∙◌, arith}
use Rattle.op_listing.proofs.Numerals.{few_fit}
use Rattle.op_listing.proofs.field.read_scalar.Goals as goal

pub returns : goal.returns
returns c = c.read_number.ensures ∙ few_fit 16 4 6 c.args.word.now (omega arith) (omega arith)
