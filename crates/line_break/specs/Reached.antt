-- How far the clusters of a paragraph are outlined.
use Rattle.std.specs.Prelude.{◌≡◌, ℕ, ◌+◌, ◌<◌, ◌≤◌, true, List, [], ◌++◌, map, take, drop, length, sum}
use Rattle.std.specs.List.{All, concat, filter, flat_map, range_with_len}
use Rattle.std.specs.Str.{IsUtf8}
use Rattle.unicode_tables.specs.Tables.{TableValues}
use Rattle.paragraphs.specs.Text.{code_points}
use Rattle.paragraphs.specs.Clusters.{cluster_sizes}
use Rattle.paragraphs.specs.Spans.{spans, spans_from}
use Rattle.paragraphs.specs.declared.span.Span.{Span}
use Rattle.line_break.specs.declared.cluster.Cluster.{Cluster}
use Rattle.line_break.specs.declared.opportunity.Boundary.{Boundary}
use Rattle.line_break.specs.declared.opportunity.Opportunity.{Opportunity}
use Rattle.line_break.specs.declared.reached.Reached.{Reached}
use Rattle.line_break.specs.declared.run.ShapeRun.{ShapeRun}
use Rattle.line_break.specs.LineClusters.{line_clusters, measured_all}
use Rattle.line_break.specs.Lines.{is_break, status_at}
use Rattle.line_break.specs.Opportunities.{boundary_at, opportunity_at}
use Rattle.line_break.specs.Runs.{AllHaveSome, EndsAt, are_longest, columns_of, if_some, sizes_of, spans_of}
use Rattle.line_break.specs.Statuses.{breaks}

-- where the next cluster stands, of so many bytes and code points
abbrev pub span_ahead : Reached → ℕ → ℕ → Span
span_ahead reached bytes points = record {
  first_byte = reached.byte;
  end_byte = reached.byte + bytes;
  first_place = reached.place;
  end_place = reached.place + points;
}

-- the clusters before `left` are outlined, and have `byte` bytes and `place` code points
pub record IsOutlinedTo (text : List ℕ) (left : List (List ℕ)) (done : List Span) (sizes : List ℕ) (byte place : ℕ) : Type 0 where
  pub utf8 : All IsUtf8 left
  pub some : All (λ (cluster : List ℕ). 0 < length cluster) left
  pub bytes : byte + length (concat left) ≡ length text
  pub places : place ≤ byte
  pub all_spans : done ++ spans_from byte place left ≡ spans text
  pub all_sizes : sizes ++ map length (map code_points left) ≡ cluster_sizes text
  pub points : drop place (code_points text) ≡ code_points (concat left)

-- how many code points each of these clusters has
abbrev pub sizes : List (List ℕ) → List ℕ
sizes left = map length (map code_points left)

-- the first n clusters of a paragraph
abbrev pub first_lines : TableValues → List ℕ → ℕ → List Cluster
first_lines tables text n = take n (line_clusters tables text)

-- the clusters before `left` are measured, and have `place` code points
pub record IsMeasuredTo (tables : TableValues) (text : List ℕ) (left : List (List ℕ)) (done : List Cluster) (place : ℕ) : Type 0 where
  pub utf8 : All IsUtf8 left
  pub some : All (λ n. 0 < n) (sizes left)
  pub places : place + sum (sizes left) ≡ length (breaks tables text)
  pub so_far : done ++ measured_all tables (map code_points left) (drop place (breaks tables text)) ≡ line_clusters tables text

-- runs of these clusters
pub record AreGathered (runs : List ShapeRun) (clusters : List Cluster) : Type 0 where
  pub columns : flat_map columns_of runs ≡ map (λ (c : Cluster). c.columns) clusters
  pub some : AllHaveSome runs
  pub longest : are_longest runs ≡ true

-- the boundary after all of these clusters
abbrev pub end_of : List Cluster → Boundary
end_of cl = boundary_at cl (length cl)

-- the boundaries at which a line may end, by their statuses alone
abbrev pub breaks_in : List Cluster → List Opportunity
breaks_in cl = map (opportunity_at cl) (filter (λ (k : ℕ). is_break (status_at cl k)) (range_with_len 1 (length cl)))

-- these runs, of which the last one may go on, and opportunities are those of the clusters before `left`
pub record IsAt (tables : TableValues) (text : List ℕ) (left : List (List ℕ)) (runs : List ShapeRun) (opportunities : List Opportunity) (reached : Reached) : Type 0 where
  pub outlined : IsOutlinedTo text left (flat_map spans_of (runs ++ if_some reached.last)) (flat_map sizes_of (runs ++ if_some reached.last)) reached.byte reached.place
  pub measured : IsMeasuredTo tables text left (first_lines tables text reached.end.clusters) reached.place
  pub gathered : AreGathered (runs ++ if_some reached.last) (first_lines tables text reached.end.clusters)
  pub ends : EndsAt reached.last reached.byte reached.place
  pub first : reached.last.count ≡ 0 → runs ≡ []
  pub count : reached.end.clusters ≤ reached.place
  pub boundary : reached.end ≡ end_of (first_lines tables text reached.end.clusters)
  pub offered : opportunities ≡ breaks_in (first_lines tables text reached.end.clusters)
