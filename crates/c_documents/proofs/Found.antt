-- The row of a caret is found, and then its neighbours.
use Rattle.std.proofs.Common.{◌≡◌, List, ap, ap₂, subst, ◌∙◌}
use Rattle.cell_grid.specs.Rows.{DrawnRow}
use Rattle.cell_grid.specs.Windows.{window_of}
use Rattle.caret.specs.declared.caret.Caret.{Caret}
use Rattle.caret.specs.declared.position.Position.{Position}
use Rattle.caret.specs.Positions.{position_moved, IsPositionOf}
use Rattle.live_document.specs.Cost.{IsLaidOut}
use Rattle.live_document.specs.Documents.{whole_rows, window_round}
use Rattle.c_documents.specs.declared.numbers.PositionNumbers.{PositionNumbers}
use Rattle.c_documents.specs.declared.told_document.ToldDocument.{ToldDocument}
use Rattle.c_documents.specs.Documents.{IsAsked, IsMoved}
use Rattle.c_documents.specs.Numbers.{position_numbers, position_with}

pub moved : (move : List DrawnRow → Caret → Caret) (old found new : ToldDocument) (from to : PositionNumbers) (position next : Position) → position ≡ position_with from
    → IsPositionOf (whole_rows old.document) position → IsLaidOut old.document found.document from.row 0 0 → whole_rows found.document ≡ whole_rows old.document → IsAsked old found
    → next ≡ position_moved move (whole_rows found.document) position → IsAsked found new → new.document.window ≡ window_round found.document position.row 1 1
    → IsLaidOut found.document new.document position.row 1 1 → to ≡ position_numbers next → IsMoved move old from new to
moved move old found new from to position next is stands row rows asked goes later window neighbours numbers = (
  subst (IsPositionOf (whole_rows old.document)) is stands,
  record { found = found.document; row = row; neighbours = subst (λ (p : Position). IsLaidOut found.document new.document p.row 1 1) is neighbours },
  record {
    numbers = numbers ∙ ap position_numbers (goes ∙ ap₂ (λ (l : List DrawnRow) (p : Position). position_moved move l p) rows is);
    window = window ∙ ap₂ (λ (l : List DrawnRow) (p : Position). window_of 1 1 p.row l) rows is;
    asked = record {
      desk = later.desk ∙ asked.desk;
      drawn = record {
        tables = later.drawn.tables ∙ asked.drawn.tables;
        width = later.drawn.width ∙ asked.drawn.width;
        base = later.drawn.base ∙ asked.drawn.base;
        most = later.drawn.most ∙ asked.drawn.most;
      };
      alike = record { told = later.alike.told ∙ asked.alike.told; lost = later.alike.lost ∙ asked.alike.lost };
    };
  },
)
