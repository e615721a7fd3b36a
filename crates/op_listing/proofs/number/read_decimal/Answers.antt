-- The goals of `read_decimal` that are answered by hand.
use Rattle.std.proofs.Common.{◌∙◌, arith}
use Rattle.std.proofs.Math.Nat.{pow-le-pow_right}
use Rattle.op_listing.proofs.Numerals.{few_fit}
use Rattle.op_listing.proofs.number.read_decimal.Goals as goal

pub returns : goal.returns
returns c =
    let power = pow-le-pow_right {n = 10} (omega arith) {i = c.args.most} {j = 9} c.requires in
    c.read_number.ensures ∙ few_fit 10 1 c.args.most c.args.word.now (omega arith) (omega (arith, power))
