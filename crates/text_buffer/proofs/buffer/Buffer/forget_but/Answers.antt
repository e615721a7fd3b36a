-- What is left of what is kept is that stretch.
use Rattle.std.proofs.Common.{◌∙◌}
use Rattle.text_buffer.specs.Buffers.{kept_in}
use Rattle.text_buffer.proofs.Forgets.{left-but}
use Rattle.text_buffer.proofs.buffer.Buffer.forget_but.Goals as goal

pub returns-clause-kept : goal.returns-clause-kept
returns-clause-kept g c = c.forget_in_turn.ensures.kept ∙ left-but c.args.from c.args.to (kept_in c.args.self.now) c.requires
