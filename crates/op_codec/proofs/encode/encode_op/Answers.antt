-- The goals of `encode_op` that are answered by hand.
use Rattle.std.proofs.Common.{◌++◌, ℕ, List, ap, ◌∙◌}
use Rattle.op_codec.specs.Spelling.{frame}
use Rattle.op_codec.proofs.encode.encode_op.Goals as goal

pub returns-in_ok-extend_from_slice-in-Insert-clause-ok : goal.returns-in_ok-extend_from_slice-in-Insert-clause-ok
returns-in_ok-extend_from_slice-in-Insert-clause-ok c =
    c.in_ok-extend_from_slice-in-Insert.ensures.items ∙ ap (λ (bytes : List ℕ). c.args.out.now.items ++ bytes) (c.insertion_frame.ensures ∙ ap frame c.in-Insert.ensures.value)
