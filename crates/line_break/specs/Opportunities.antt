-- The boundaries of a paragraph at which a line may end.
use Rattle.std.specs.Prelude.{ℕ, ◌+◌, ◌-◌, List, [], ◌∷◌, map, take, length, if◌then◌else◌}
use Rattle.std.specs.List.{filter, range_with_len}
use Rattle.line_break.specs.declared.cluster.Cluster.{Cluster}
use Rattle.line_break.specs.declared.opportunity.Boundary.{Boundary}
use Rattle.line_break.specs.declared.opportunity.Opportunity.{Opportunity}
use Rattle.line_break.specs.declared.status.Break.{Break}
use Rattle.line_break.specs.LineClusters.{hangs}
use Rattle.line_break.specs.Lines.{without_tail, columns, is_must, is_break, status_at, is_opportunity}

-- the boundary after so many of these clusters
abbrev pub boundary_at : List Cluster → ℕ → Boundary
boundary_at clusters end = record {
  clusters = end;
  columns = columns (take end clusters);
  solid = columns (without_tail (take end clusters));
}

-- an opportunity there
abbrev pub opportunity_at : List Cluster → ℕ → Opportunity
opportunity_at clusters end = record { boundary = boundary_at clusters end; must = is_must (status_at clusters end) }

-- all of them, in order
unfoldable pub opportunities_of : List Cluster → List Opportunity
opportunities_of clusters = map (opportunity_at clusters) (filter (is_opportunity clusters) (range_with_len 1 (length clusters)))

-- those behind a boundary
unfoldable pub opportunities_behind : List Cluster → ℕ → List Opportunity
opportunities_behind clusters start =
    map (opportunity_at clusters) (filter (is_opportunity clusters) (range_with_len (start + 1) (length clusters - start)))

-- the boundary before the first cluster
abbrev pub before_all : Boundary
before_all = record { clusters = 0; columns = 0; solid = 0 }

-- the boundary after one more cluster
abbrev pub behind : Boundary → Cluster → Boundary
behind b c = record {
  clusters = b.clusters + 1;
  columns = b.columns + c.columns;
  solid = if hangs c then b.solid else b.columns + c.columns;
}

-- a boundary of this status, if a line may end there
abbrev pub offered : Boundary → Break → List Opportunity
offered b status = if is_break status then record { boundary = b; must = is_must status } ∷ [] else []
