-- The class tells the column, but for CP, OP and SA.
use Rattle.std.proofs.Common.{refl}
use Rattle.line_break.proofs.Columns.{column-other, IsColumn-of}
use Rattle.line_break.proofs.state.column_of.Goals as goal

pub returns-in_default : goal.returns-in_default
returns-in_default c =
    let w = c.args.word.now in
    IsColumn-of w _ _ refl (column-other w.bidi _ _ c.in_default.not-Cp c.in_default.not-Op c.in_default.not-Sa)
