-- The lines of the outlined paragraph.
use Rattle.std.proofs.Common.{slice_range, map, length, sym, ap, ◌∙◌, arith}
use Rattle.std.specs.List.{flat_map}
use Rattle.paragraphs.specs.Clusters.{clusters}
use Rattle.paragraphs.specs.Spans.{spans}
use Rattle.line_break.specs.declared.cluster.Cluster.{Cluster}
use Rattle.line_break.specs.declared.line.Line.{Line}
use Rattle.line_break.specs.LineClusters.{line_clusters}
use Rattle.line_break.specs.Lines.{lines}
use Rattle.line_break.specs.Opportunities.{opportunities_of}
use Rattle.line_break.proofs.Joining.{joined-lines}
use Rattle.line_break.proofs.line.lines.Goals as goal

pub lines_into-requires-clause-runs : goal.lines_into-requires-clause-runs
lines_into-requires-clause-runs c =
    let text = sym c.text-2.ensures in
    record {
      spans = c.in_ok-outline_into.ensures.spans ∙ ap spans text;
      columns = c.in_ok-outline_into.ensures.columns ∙ ap (λ t. map (λ (x : Cluster). x.columns) (line_clusters c.args.tables.now t)) text;
    }

pub lines_into-requires-clause-opportunities : goal.lines_into-requires-clause-opportunities
lines_into-requires-clause-opportunities c = c.in_ok-outline_into.ensures.opportunities ∙ ap (λ t. opportunities_of (line_clusters c.args.tables.now t)) (sym c.text-2.ensures)

pub lines_into-requires-clause-size : goal.lines_into-requires-clause-size
lines_into-requires-clause-size c = let same = ap length c.text-2.ensures in omega (arith, c.requires.size)

pub returns-clause-lines : goal.returns-clause-lines
returns-clause-lines c = c.in_ok-lines_into.ensures ∙ ap (λ t. lines c.args.tables.now t c.args.width) c.text-2.ensures

pub returns-clause-joined : goal.returns-clause-joined
returns-clause-joined c =
    let part = λ (line : Line). slice_range (clusters c.args.para.now.text) line.start line.end in
    ap (flat_map part) (returns-clause-lines c) ∙ joined-lines c.args.tables.now c.args.para.now.text c.args.width
