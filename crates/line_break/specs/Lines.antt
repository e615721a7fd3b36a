-- Lines: where lines of a width end.
use Rattle.std.specs.Prelude.{ℕ, zero, suc, Bool, true, false, not, ◌+◌, ◌-◌, ◌==◌, ◌&&◌, ◌||◌, nat_le, List, [], ◌∷◌, map, take, drop, length, sum_by, slice_index_or, Option, Some, None, unwrap_or, if◌then◌else◌}
use Rattle.std.specs.List.{list_all}
use Rattle.unicode_tables.specs.Tables.{TableValues}
use Rattle.line_break.specs.declared.cluster.Cluster.{Cluster}
use Rattle.line_break.specs.declared.line.Line.{Line}
use Rattle.line_break.specs.declared.status.Break.{Break}
use Rattle.line_break.specs.declared.status.Break.TheVariants.{Must, No}
use Rattle.line_break.specs.LineClusters.{line_clusters, hangs}

-- a range of clusters without its tail, its longest end of clusters that hang
abbrev pub without_tail : List Cluster → List Cluster
without_tail [] = []
without_tail (c ∷ stretch) = if list_all hangs (c ∷ stretch) then [] else c ∷ without_tail stretch

-- the tail
abbrev pub tail : List Cluster → List Cluster
tail stretch = drop (length (without_tail stretch)) stretch

-- the columns of a range
abbrev pub columns : List Cluster → ℕ
columns stretch = sum_by (λ (c : Cluster). c.columns) stretch

-- the columns outside the tail add up to at most the width
abbrev pub fits : ℕ → List Cluster → Bool
fits width stretch = nat_le (columns (without_tail stretch)) width

abbrev pub is_must : Break → Bool
is_must Must = true
is_must _ = false

abbrev pub is_break : Break → Bool
is_break No = false
is_break _ = true

-- the status at the boundary after the first `end` of these clusters, at least one
abbrev pub status_at : List Cluster → ℕ → Break
status_at clusters end = slice_index_or (map (λ (c : Cluster). c.after) clusters) (end - 1) Must

-- F: a line that begins with the first of these clusters fits up to the boundary after `end` of them, and no mandatory break stands strictly between
unfoldable pub is_in_reach : ℕ → List Cluster → ℕ → Bool
is_in_reach width clusters end = fits width (take end clusters) && list_all (λ (c : Cluster). not (is_must c.after)) (take (end - 1) clusters)

-- a line may end there: at a break, or at the paragraph's end
unfoldable pub is_opportunity : List Cluster → ℕ → Bool
is_opportunity clusters end = is_break (status_at clusters end) || end == length clusters

-- the greatest number from 1 to n that passes
unfoldable pub greatest : (ℕ → Bool) → ℕ → Option ℕ
greatest passes zero = None
greatest passes (suc n) = if passes (suc n) then Some (suc n) else greatest passes n

-- how many of these clusters the first line takes: it ends at the greatest opportunity in F, else at the greatest of F, which isn't empty at a width of 2 or more
unfoldable pub line_len : ℕ → List Cluster → ℕ
line_len width clusters =
    unwrap_or (greatest (λ end. is_in_reach width clusters end && is_opportunity clusters end) (length clusters))
    (unwrap_or (greatest (is_in_reach width clusters) (length clusters)) 1)

-- the first n lines of these clusters, the first of which has this number in the paragraph
unfoldable pub lines_from : ℕ → ℕ → ℕ → List Cluster → List Line
lines_from zero width start clusters = []
lines_from (suc n) width start [] = []
lines_from (suc n) width start (c ∷ clusters) =
    let len = line_len width (c ∷ clusters) in
    record { start = start; end = start + len } ∷ lines_from n width (start + len) (drop len (c ∷ clusters))

-- the lines of a paragraph of these clusters: an empty one has one empty line
unfoldable pub lines_of : ℕ → List Cluster → List Line
lines_of width [] = record { start = 0; end = 0 } ∷ []
lines_of width (c ∷ clusters) = lines_from (length (c ∷ clusters)) width 0 (c ∷ clusters)

-- the lines of a paragraph's text at a width
abbrev pub lines : TableValues → List ℕ → ℕ → List Line
lines tables text width = lines_of width (line_clusters tables text)
