-- Those so far are outlined, and the next one is plain.
use Rattle.std.proofs.Common.{◌≡◌, ◌≤◌, true, length, get_or}
use Rattle.std.specs.Prelude.{encode_utf8_all}
use Rattle.paragraphs.specs.Clusters.{is_plain}
use Rattle.line_break.specs.Reached.{IsAt}
use Rattle.line_break.proofs.reached.Reached.put_plain_ones.Given as goal

abbrev pub invariant-loop-place : goal.invariant-loop-place
invariant-loop-place l = record {
  at : IsAt l.tables (encode_utf8_all l.points) l.left l.outline.runs.items l.outline.opportunities.items l.reached;
  plain : is_plain (get_or l.points l.reached.place 0) ≡ true;
  on : l.fn.self.place ≤ l.reached.place;
}

abbrev pub decreases-loop-place : goal.decreases-loop-place
decreases-loop-place l = length l.left
