-- The goals of `keep` that are answered by hand.
use Rattle.std.proofs.Common.{◌++◌, List, ℕ, take, ap, ◌∙◌, arith}
use Rattle.op_codec.proofs.Cuts.{rest_kept}
use Rattle.op_codec.proofs.cut.keep.Goals as goal

pub returns : goal.returns
returns c =
    let all = c.append.ensures ∙ ap (λ (s : List ℕ). s ++ take c.min-most.result c.args.rest.now) c.clear.ensures in
    rest_kept c.args.at.now c.args.rest.now c.append.new.kept.items c.min-most.result c.requires.0 (omega (arith, c.min-most.ensures)) all c.requires.1
