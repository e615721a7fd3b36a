-- At first all lines are left.
use Rattle.std.proofs.Common.{List, length, [], ◌++◌, ◌∷◌, refl, sym, ap, subst, ◌∙◌, arith}
use Rattle.std.proofs.lemmas.Bool.{eqb-true}
use Rattle.line_break.specs.declared.opportunity.Boundary.{Boundary}
use Rattle.line_break.specs.declared.opportunity.Opportunity.{Opportunity}
use Rattle.line_break.specs.LineClusters.{line_clusters}
use Rattle.line_break.specs.Open.{IsOpen, lines_left}
use Rattle.line_break.proofs.Breaking.{opened-first}
use Rattle.line_break.proofs.LinesLeft.{line_of, lines_of-nil, lines_of-left, some_from_test}
use Rattle.line_break.proofs.Reading.{no-lines, some-lines}
use Rattle.line_break.proofs.line.lines_into.Goals as goal

pub returns-then-is_empty : goal.returns-then-is_empty
returns-then-is_empty c =
    let text = c.args.text.now in
    c.in_ok-push.ensures.items ∙ ap (λ ls. ls ++ line_of 0 0 ∷ []) c.clear.ensures.items
    ∙ sym (lines_of-nil c.args.width (line_clusters c.args.tables.now text)
    (no-lines c.args.tables.now text (c.clusters_join.ensures.joined text c.utf8.text) (c.clusters_join.ensures.some text) (eqb-true (length text) 0 (sym c.if-is_empty.ensures))))

pub loop-line-init : goal.loop-line-init
loop-line-init c =
    let text = c.args.text.now in
    let cl = line_clusters c.args.tables.now text in
    let start = c.before_all-start.result in
    record {
      state =
          subst (λ (opportunities : List Opportunity). IsOpen cl opportunities c.args.width (record { start = start; reached = start; next = 0 })) (sym c.requires.opportunities)
          (opened-first cl c.args.width start c.before_all-start.ensures);
      cursor = record { within = omega arith; first = refl; order = omega arith };
      so_far =
          ap (λ ls. ls ++ lines_left cl c.args.width start.clusters) c.clear.ensures.items
          ∙ ap (λ (b : Boundary). lines_left cl c.args.width b.clusters) c.before_all-start.ensures
          ∙ lines_of-left c.args.width cl (some-lines c.args.tables.now text (c.clusters_join.ensures.joined text c.utf8.text) (some_from_test (length text) c.if-is_empty.ensures));
    }
