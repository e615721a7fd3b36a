-- Runs of clusters of one shape.
use Rattle.std.specs.Prelude.{◌≡◌, ℕ, Bool, true, not, ◌+◌, ◌-◌, ◌*◌, ◌<◌, ◌≤◌, ◌==◌, ◌&&◌, List, [], ◌∷◌, ◌++◌, map, replicate, if◌then◌else◌}
use Rattle.std.specs.List.{All, flat_map, range_with_len}
use Rattle.paragraphs.specs.declared.span.Span.{Span}
use Rattle.line_break.specs.declared.run.ShapeRun.{ShapeRun}

-- where the cluster of this number stands, counted in the run from 0
abbrev pub span_in : ShapeRun → ℕ → Span
span_in run k = record {
  first_byte = run.first_byte + k * run.bytes;
  end_byte = run.first_byte + k * run.bytes + run.bytes;
  first_place = run.first_place + k * run.points;
  end_place = run.first_place + k * run.points + run.points;
}

-- where its clusters stand
abbrev pub spans_of : ShapeRun → List Span
spans_of run = map (span_in run) (range_with_len 0 run.count)

-- how many code points each of them has
abbrev pub sizes_of : ShapeRun → List ℕ
sizes_of run = replicate run.count run.points

-- how many columns
abbrev pub columns_of : ShapeRun → List ℕ
columns_of run = replicate run.count run.columns

-- no run is empty
abbrev pub AllHaveSome : List ShapeRun → Type 0
AllHaveSome runs = All (λ (run : ShapeRun). 0 < run.count) runs

-- a run of no cluster
abbrev pub no_run : ShapeRun
no_run = record { first_byte = 0; first_place = 0; count = 0; bytes = 0; points = 0; columns = 0 }

-- the run, where it has clusters
abbrev pub if_some : ShapeRun → List ShapeRun
if_some run = if run.count == 0 then [] else run ∷ []

-- a cluster alone
abbrev pub alone : Span → ℕ → ShapeRun
alone span columns = record {
  first_byte = span.first_byte;
  first_place = span.first_place;
  count = 1;
  bytes = span.end_byte - span.first_byte;
  points = span.end_place - span.first_place;
  columns = columns;
}

-- the clusters of two runs have one shape
abbrev pub have_one_shape : ShapeRun → ShapeRun → Bool
have_one_shape run next = run.bytes == next.bytes && run.points == next.points && run.columns == next.columns

-- a run can't go on in those after it
abbrev pub ends_before : ShapeRun → List ShapeRun → Bool
ends_before run [] = true
ends_before run (next ∷ runs) = not (have_one_shape run next)

-- none can: each is as long as it can be
abbrev pub are_longest : List ShapeRun → Bool
are_longest [] = true
are_longest (run ∷ runs) = ends_before run runs && are_longest runs

-- one more cluster
abbrev pub longer : ShapeRun → ShapeRun
longer run = record run { count = run.count + 1 }

-- a run that ends before this byte and this place
pub record EndsAt (run : ShapeRun) (byte place : ℕ) : Type 0 where
  pub few : run.count ≤ place
  pub bytes : run.first_byte + run.count * run.bytes ≡ byte
  pub places : run.first_place + run.count * run.points ≡ place

-- what the runs before have and, behind it, what the next one has, is what the runs after have
pub record AreJoined (before : List ShapeRun) (next : ShapeRun) (after : List ShapeRun) : Type 0 where
  pub spans : flat_map spans_of after ≡ flat_map spans_of before ++ spans_of next
  pub sizes : flat_map sizes_of after ≡ flat_map sizes_of before ++ sizes_of next
  pub columns : flat_map columns_of after ≡ flat_map columns_of before ++ columns_of next
  pub some : AllHaveSome before → AllHaveSome after
  pub longest : are_longest before ≡ true → are_longest after ≡ true
