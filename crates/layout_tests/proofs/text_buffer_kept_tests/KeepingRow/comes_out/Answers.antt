-- What is kept leaves the paragraphs.
use Rattle.std.proofs.Common.{sym, subst}
use Rattle.text_buffer.specs.Buffers.{IsSplit}
use Rattle.layout_tests.proofs.text_buffer_kept_tests.KeepingRow.comes_out.Goals as goal

pub edits-preserved : goal.edits-preserved
edits-preserved c = subst (IsSplit c.args.tables.now) (sym c.keep_beside.ensures) c.edit_again.ensures
