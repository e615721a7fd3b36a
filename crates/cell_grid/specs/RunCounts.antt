-- How many runs the entries of a row make.
use Rattle.std.specs.Prelude.{ℕ, ◌+◌, Bool, ◌==◌, ◌&&◌, List, [], ◌∷◌, if◌then◌else◌}
use Rattle.reorder.specs.VisualList.{is_odd}
use Rattle.paragraphs.specs.declared.span.Span.{Span}
use Rattle.cell_grid.specs.declared.entry.Entry.{Entry}
use Rattle.cell_grid.specs.Runs.{byte_count, point_count}
use Rattle.cell_grid.specs.Spans.{shifted_span}

-- the span behind this one, of its size
abbrev pub span_behind : Span → Span
span_behind s = shifted_span (byte_count s) (point_count s) s

abbrev pub same_span : Span → Span → Bool
same_span s t = (s.first_byte == t.first_byte) && (s.end_byte == t.end_byte) && (s.first_place == t.first_place) && (s.end_place == t.end_place)

-- the right one of two entries goes on where the left one ends: they are alike, and its cluster is the next one in the text, or at
-- an odd level the one before
abbrev pub goes_on : (left right : Entry) → Bool
goes_on l r = (l.level == r.level) && (l.columns == r.columns)
    && (if is_odd l.level then same_span (span_behind r.span) l.span else same_span (span_behind l.span) r.span)

-- how many runs begin behind an entry
abbrev pub runs_behind : Entry → List Entry → ℕ
runs_behind e [] = 0
runs_behind e (f ∷ later) = (if goes_on e f then 0 else 1) + runs_behind f later

-- how many runs entries make, each as long as it can be
abbrev pub run_count : List Entry → ℕ
run_count [] = 0
run_count (e ∷ later) = 1 + runs_behind e later
