-- The columns of a line's clusters, those of the spaces at its end among them.
use Rattle.std.specs.Prelude.{ℕ, suc, ◌-◌, nat_le, List, [], ◌∷◌, ◌++◌, map, length, replicate, slice_range, if◌then◌else◌}
use Rattle.unicode_tables.specs.Tables.{TableValues}
use Rattle.line_break.specs.declared.line.Line.{Line}
use Rattle.line_break.specs.LineClusters.{line_clusters}
use Rattle.line_break.specs.Lines.{without_tail, tail, columns}

-- in logical order each takes its columns while there is room; the first that doesn't fit and all later ones take 0
abbrev pub hung : (room : ℕ) → List ℕ → List ℕ
hung room [] = []
hung room (n ∷ later) = if nat_le n room then n ∷ hung (room - n) later else replicate (suc (length later)) 0

-- the columns of each cluster of a line: what stands before its tail has its own, and the tail's spaces hang in the room that is left
abbrev pub line_columns : TableValues → (width : ℕ) → (text : List ℕ) → Line → List ℕ
line_columns tables width text line =
    let clusters = slice_range (line_clusters tables text) line.start line.end in
    map (λ c. c.columns) (without_tail clusters)
    ++ hung (width - columns (without_tail clusters)) (map (λ c. c.columns) (tail clusters))
