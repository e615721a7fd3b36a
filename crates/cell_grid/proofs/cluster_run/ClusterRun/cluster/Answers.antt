-- Where the last cluster is in reach each is.
use Rattle.std.proofs.Common.{◌*◌, sym, ap, subst, ◌∙◌}
use Rattle.paragraphs.specs.declared.span.Span.{Span}
use Rattle.cell_grid.specs.Runs.{byte_count, point_count, span_after}
use Rattle.cell_grid.specs.Shifting.{StaysInReach}
use Rattle.cell_grid.proofs.Reaching.{reaches}
use Rattle.cell_grid.proofs.cluster_run.ClusterRun.cluster.Goals as goal

pub span_after-requires : goal.span_after-requires
span_after-requires c =
    subst (λ (s : Span). StaysInReach (c.args.number * byte_count s) (c.args.number * point_count s) s) (sym c.read.ensures)
    (reaches c.args.self.now c.args.number c.requires.within c.requires.reach)

pub returns : goal.returns
returns c = c.span_after.ensures ∙ ap (span_after c.args.number) c.read.ensures
