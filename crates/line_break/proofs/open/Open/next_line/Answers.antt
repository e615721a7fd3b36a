-- The line ends where it doesn't fit up to the next opportunity, at a mandatory break or at the paragraph's end.
use Rattle.std.proofs.Common.{ℕ, ◌≤◌, List, sym, ap, subst, ◌∙◌, arith}
use Rattle.std.proofs.lemmas.Bool.{leb-true, leb-false}
use Rattle.line_break.specs.declared.open.Open.{Open}
use Rattle.line_break.specs.declared.opportunity.Boundary.{Boundary}
use Rattle.line_break.specs.declared.opportunity.Opportunity.{Opportunity}
use Rattle.line_break.specs.declared.run.ShapeRun.{ShapeRun}
use Rattle.line_break.specs.Cursors.{AreRunsOf, IsBefore}
use Rattle.line_break.specs.LineClusters.{line_clusters}
use Rattle.line_break.specs.Open.{IsOpen, lines_left}
use Rattle.line_break.proofs.Measuring.{two-line_clusters}
use Rattle.line_break.proofs.Reading.{IsBefore-later}
use Rattle.line_break.proofs.Breaking.{next-order, at-end, line-end, open-reached, open-next, line-must, open-must, ends-before, line-cut}
use Rattle.line_break.proofs.open.Open.next_line.Goals as goal

pub end_before-end-requires-clause-start : goal.end_before-end-requires-clause-start
end_before-end-requires-clause-start c = c.loop-self.invariant.state.start

pub returns-then-not-fits-clause-lines : goal.returns-then-not-fits-clause-lines
returns-then-not-fits-clause-lines c =
    let cl = (line_clusters c.args.tables.now c.args.text.now) in
    let w = c.args.width in
    let o = c.loop-self.self in
    let over = leb-false _ w (sym c.fits.ensures ∙ c.if-not-fits.true) in
    let ends = ends-before cl _ w o c.loop-self.invariant.state _ c.loop-self-test.true over (two-line_clusters c.args.tables.now c.args.text.now) c.requires.width c.end_before-end.result
    c.end_before-end.ensures.last c.end_before-end.ensures.full in
    line-cut cl w c.args.self.now.start o.start c.end_before-end.result c.cut.new.self.start c.cut.result c.loop-self.invariant.start ends.0
    c.cut.ensures.line (ap (λ (t : Open). t.start) c.cut.ensures.state)

pub returns-then-not-fits-clause-state : goal.returns-then-not-fits-clause-state
returns-then-not-fits-clause-state c =
    let cl = (line_clusters c.args.tables.now c.args.text.now) in
    let w = c.args.width in
    let o = c.loop-self.self in
    let over = leb-false _ w (sym c.fits.ensures ∙ c.if-not-fits.true) in
    let ends = ends-before cl _ w o c.loop-self.invariant.state _ c.loop-self-test.true over (two-line_clusters c.args.tables.now c.args.text.now) c.requires.width c.end_before-end.result
    c.end_before-end.ensures.last c.end_before-end.ensures.full in
    subst (λ (ops : List Opportunity). IsOpen cl ops w c.cut.new.self) c.loop-self.invariant.lent (subst (IsOpen cl _ w) (sym c.cut.ensures.state) ends.1)

pub loop-self-preserved : goal.loop-self-preserved
loop-self-preserved c =
    let fits = leb-true _ c.args.width (sym c.fits.ensures ∙ c.if-not-fits.false) in
    record {
      state = open-next (line_clusters c.args.tables.now c.args.text.now) _ c.args.width c.loop-self.self c.loop-self.invariant.state _ c.loop-self-test.true fits (sym c.if-opportunity.false);
      start = c.loop-self.invariant.start;
      lent = c.loop-self.invariant.lent;
      cursor = c.loop-self.invariant.cursor;
    }

pub returns-then-opportunity-clause-state : goal.returns-then-opportunity-clause-state
returns-then-opportunity-clause-state c =
    let fits = leb-true _ c.args.width (sym c.fits.ensures ∙ c.if-not-fits.false) in
    subst (λ (ops : List Opportunity). IsOpen (line_clusters c.args.tables.now c.args.text.now) ops c.args.width c.cut-then-opportunity.new.self) c.loop-self.invariant.lent
    (subst (IsOpen (line_clusters c.args.tables.now c.args.text.now) _ c.args.width) (sym c.cut-then-opportunity.ensures.state)
    (open-must (line_clusters c.args.tables.now c.args.text.now) _ c.args.width c.loop-self.self c.loop-self.invariant.state _ c.loop-self-test.true fits))

pub returns-then-opportunity-clause-lines : goal.returns-then-opportunity-clause-lines
returns-then-opportunity-clause-lines c =
    let cl = (line_clusters c.args.tables.now c.args.text.now) in
    let w = c.args.width in
    let o = c.loop-self.self in
    let fits = leb-true _ w (sym c.fits.ensures ∙ c.if-not-fits.false) in
    line-cut cl w c.args.self.now.start o.start _ c.cut-then-opportunity.new.self.start c.cut-then-opportunity.result c.loop-self.invariant.start
    (line-must cl _ w o c.loop-self.invariant.state _ c.loop-self-test.true fits (sym c.if-opportunity.true))
    c.cut-then-opportunity.ensures.line (ap (λ (t : Open). t.start) c.cut-then-opportunity.ensures.state)

pub returns-then-self-clause-state : goal.returns-then-self-clause-state
returns-then-self-clause-state c =
    subst (λ (ops : List Opportunity). IsOpen (line_clusters c.args.tables.now c.args.text.now) ops c.args.width c.cut-then-self.new.self) c.loop-self.invariant.lent
    (subst (IsOpen (line_clusters c.args.tables.now c.args.text.now) _ c.args.width) (sym c.cut-then-self.ensures.state)
    (open-reached (line_clusters c.args.tables.now c.args.text.now) _ c.args.width c.loop-self.self c.loop-self.invariant.state))

pub returns-then-self-clause-lines : goal.returns-then-self-clause-lines
returns-then-self-clause-lines c =
    let o = c.loop-self.self in
    line-cut (line_clusters c.args.tables.now c.args.text.now) c.args.width c.args.self.now.start o.start o.reached c.cut-then-self.new.self.start c.cut-then-self.result
    c.loop-self.invariant.start
    (line-end (line_clusters c.args.tables.now c.args.text.now) _ c.args.width o c.loop-self.invariant.state c.loop-self-test.false c.if-self.true)
    c.cut-then-self.ensures.line (ap (λ (t : Open). t.start) c.cut-then-self.ensures.state)

pub returns-else-self-clause-lines : goal.returns-else-self-clause-lines
returns-else-self-clause-lines c =
    let o = c.loop-self.self in
    ap (λ (b : Boundary). lines_left (line_clusters c.args.tables.now c.args.text.now) c.args.width b.clusters) (sym c.loop-self.invariant.start)
    ∙ at-end (line_clusters c.args.tables.now c.args.text.now) _ c.args.width o c.loop-self.invariant.state c.loop-self-test.false c.if-self.false

pub end_before-end-requires-clause-runs : goal.end_before-end-requires-clause-runs
end_before-end-requires-clause-runs c =
    subst (AreRunsOf c.args.tables.now c.args.text.now) (sym c.deref-then-not-fits.ensures.value) c.requires.runs

pub end_before-end-requires-clause-cursor : goal.end_before-end-requires-clause-cursor
end_before-end-requires-clause-cursor c =
    subst (λ (runs : List ShapeRun). IsBefore runs c.loop-self.cursor c.loop-self.self.start.clusters) (sym c.deref-then-not-fits.ensures.value) c.loop-self.invariant.cursor

pub returns-then-not-fits-clause-cursor : goal.returns-then-not-fits-clause-cursor
returns-then-not-fits-clause-cursor c =
    let on = ap (λ (t : Open). t.start.clusters) c.cut.ensures.state in
    IsBefore-later _ _ c.end_before-end.result.clusters _
    (subst (λ (runs : List ShapeRun). IsBefore runs c.end_before-end.new.cursor c.end_before-end.result.clusters) c.deref-then-not-fits.ensures.value c.end_before-end.ensures.cursor)
    (omega arith)

pub end_before-end-requires-clause-order : goal.end_before-end-requires-clause-order
end_before-end-requires-clause-order c = c.loop-self.invariant.state.order

pub returns-then-opportunity-clause-cursor : goal.returns-then-opportunity-clause-cursor
returns-then-opportunity-clause-cursor c =
    let o = c.loop-self.self in
    let on = ap (λ (t : Open). t.start.clusters) c.cut-then-opportunity.ensures.state in
    IsBefore-later _ _ _ _ c.loop-self.invariant.cursor
    (subst (λ (n : ℕ). o.start.clusters ≤ n) (sym on)
    (next-order (line_clusters c.args.tables.now c.args.text.now) _ c.args.width o c.loop-self.invariant.state _ c.loop-self-test.true))

pub returns-then-self-clause-cursor : goal.returns-then-self-clause-cursor
returns-then-self-clause-cursor c =
    let on = ap (λ (t : Open). t.start.clusters) c.cut-then-self.ensures.state in
    let order = c.loop-self.invariant.state.order in
    IsBefore-later _ _ _ _ c.loop-self.invariant.cursor (omega arith)

pub returns-else-self-clause-state : goal.returns-else-self-clause-state
returns-else-self-clause-state c =
    subst (λ (ops : List Opportunity). IsOpen (line_clusters c.args.tables.now c.args.text.now) ops c.args.width c.loop-self.self) c.loop-self.invariant.lent c.loop-self.invariant.state
