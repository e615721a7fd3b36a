-- The line ends before the first cluster that doesn't fit.
use Rattle.std.proofs.Common.{◌-◌, ◌<◌, sym, ap, subst, ◌∙◌, arith}
use Rattle.std.proofs.lemmas.Bool.{leb-true, leb-false}
use Rattle.line_break.specs.declared.opportunity.Boundary.{Boundary}
use Rattle.line_break.specs.LineClusters.{line_clusters}
use Rattle.line_break.specs.Open.{IsBoundary}
use Rattle.line_break.proofs.Boundaries.{IsBoundary-behind, IsLastFitting-all, IsLastFitting-full, room, start-fits}
use Rattle.line_break.proofs.Measuring.{two-line_clusters}
use Rattle.line_break.proofs.Reading.{no_cluster, behind-read, few-lines, columns-read, IsBefore-later}
use Rattle.line_break.proofs.open.last_fitting.Goals as goal

pub loop-cluster-init : goal.loop-cluster-init
loop-cluster-init c = record {
  boundary = c.requires.start;
  order = omega arith;
  fits = start-fits (line_clusters c.args.tables.now c.args.text.now) c.args.start c.args.width c.requires.start;
  cursor = c.requires.cursor;
}

pub behind-next-requires-clause-clusters : goal.behind-next-requires-clause-clusters
behind-next-requires-clause-clusters c =
    let text = c.args.text.now in
    let few = few-lines c.args.tables.now text (c.clusters_join.ensures.joined text c.utf8.text) (c.clusters_join.ensures.some text) in
    omega (arith, c.requires.size, c.in-Some.ensures.read.within)

pub behind-next-requires-clause-columns : goal.behind-next-requires-clause-columns
behind-next-requires-clause-columns c =
    let text = c.args.text.now in
    let cl = line_clusters c.args.tables.now text in
    let few = few-lines c.args.tables.now text (c.clusters_join.ensures.joined text c.utf8.text) (c.clusters_join.ensures.some text) in
    let at = c.in-Some.ensures.read in
    let same = columns-read cl c.loop-cluster.end.clusters c.in-Some.cluster no_cluster at in
    let fits = room cl c.loop-cluster.end c.loop-cluster.invariant.boundary no_cluster at.within (two-line_clusters c.args.tables.now text) (omega (arith, c.requires.size)) in
    omega arith

pub returns-then-not-fits-clause-last : goal.returns-then-not-fits-clause-last
returns-then-not-fits-clause-last c =
    let cl = line_clusters c.args.tables.now c.args.text.now in
    let at = c.in-Some.ensures.read in
    let over = leb-false _ c.args.width (sym c.fits.ensures ∙ c.if-not-fits.true) in
    IsLastFitting-full cl c.loop-cluster.end c.loop-cluster.invariant.boundary no_cluster at.within c.args.width c.args.start
    c.loop-cluster.invariant.order c.loop-cluster.invariant.fits
    (subst (λ (b : Boundary). c.args.width < b.solid - c.args.start.columns)
    (c.behind-next.ensures ∙ behind-read cl c.loop-cluster.end.clusters c.loop-cluster.end c.in-Some.cluster no_cluster at) over)

pub loop-cluster-preserved : goal.loop-cluster-preserved
loop-cluster-preserved c =
    let cl = line_clusters c.args.tables.now c.args.text.now in
    let at = c.in-Some.ensures.read in
    let fits = leb-true _ c.args.width (sym c.fits.ensures ∙ c.if-not-fits.false) in
    let on = ap (λ (b : Boundary). b.clusters) c.behind-next.ensures in
    let order = c.loop-cluster.invariant.order in
    record {
      boundary = subst (IsBoundary cl)
          (sym (c.behind-next.ensures ∙ behind-read cl c.loop-cluster.end.clusters c.loop-cluster.end c.in-Some.cluster no_cluster at))
          (IsBoundary-behind cl c.loop-cluster.end c.loop-cluster.invariant.boundary no_cluster at.within);
      order = omega arith;
      fits = omega arith;
      cursor = IsBefore-later _ _ c.loop-cluster.end.clusters c.behind-next.result.clusters c.read.ensures.before (omega arith);
    }

pub returns-clause-last : goal.returns-clause-last
returns-clause-last c =
    IsLastFitting-all (line_clusters c.args.tables.now c.args.text.now) c.loop-cluster.end c.loop-cluster.invariant.boundary c.args.width c.args.start
    c.loop-cluster.invariant.order c.loop-cluster.invariant.fits c.in_default.ensures.read
