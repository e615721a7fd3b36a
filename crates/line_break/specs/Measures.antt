-- What is read of a cluster by itself.
use Rattle.std.specs.Prelude.{◌≡◌, ℕ, List, ◌∷◌, length}
use Rattle.unicode_tables.specs.Tables.{TableValues}
use Rattle.paragraphs.specs.Text.{code_points}
use Rattle.paragraphs.specs.Columns.{columns_of}
use Rattle.line_break.specs.declared.measure.Measure.{Measure}
use Rattle.line_break.specs.LineClusters.{is_space}

-- of a cluster of these code points
abbrev pub measure_of : TableValues → List ℕ → Measure
measure_of tables cluster = record {
  size = length cluster;
  columns = columns_of tables cluster;
  is_space = is_space tables cluster;
}

-- it is read of the first of these clusters, after which those are left
pub record IsNext (tables : TableValues) (m : Measure) (clusters left : List (List ℕ)) : Type 0 where
  pub cluster : List ℕ
  pub taken : clusters ≡ cluster ∷ left
  pub measured : m ≡ measure_of tables (code_points cluster)
