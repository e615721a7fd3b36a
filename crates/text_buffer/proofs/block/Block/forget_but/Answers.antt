-- The paragraphs are the same but for what is kept of them, which is counted anew.
use Rattle.std.proofs.Common.{sym, arith}
use Rattle.text_buffer.proofs.Forgets.{left-none}
use Rattle.text_buffer.proofs.block.Block.forget_but.Goals as goal

pub returns-then-self-eq0-clause-kept : goal.returns-then-self-eq0-clause-kept
returns-then-self-eq0-clause-kept g c =
    let b = c.args.self.now in
    sym (left-none c.args.spared c.args.first b.pieces.items (omega (arith, b.kept_is, c.if-self-eq0.true)))
