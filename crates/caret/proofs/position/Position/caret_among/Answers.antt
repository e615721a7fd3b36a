-- A row that begins at the position's row lies among these.
use Rattle.std.proofs.Common.{ap, sym, subst}
use Rattle.caret.specs.declared.caret.Caret.{Caret}
use Rattle.caret.specs.Gaps.{IsCaretOf}
use Rattle.caret.proofs.Positions.{begun-position, positions-carets}
use Rattle.caret.proofs.position.Position.caret_among.Goals as goal

pub row_at-requires-clause-begun : goal.row_at-requires-clause-begun
row_at-requires-clause-begun c = begun-position c.args.rows.now c.args.self c.requires.rises c.requires.stands

pub returns-clause-caret : goal.returns-clause-caret
returns-clause-caret c = ap (λ n. let caret : Caret = record { row = n; gap = c.args.self.gap; place = c.args.self.place } in caret) c.row_at.ensures.number

pub returns-clause-within : goal.returns-clause-within
returns-clause-within c =
    subst (IsCaretOf c.args.rows.now)
    (sym (ap (λ n. let caret : Caret = record { row = n; gap = c.args.self.gap; place = c.args.self.place } in caret) c.row_at.ensures.number))
    ((positions-carets c.args.rows.now c.requires.rises).to_caret c.args.self c.requires.stands)
