-- Where the low bits differ the numbers do.
use Rattle.std.proofs.Common.{◌≡◌, sym, ◌∙◌, arith}
use Rattle.std.proofs.lemmas.Bool.{eq-eqb, not-true, true≢false}
use Rattle.cell_grid.specs.KeptSpans.{span_kept}
use Rattle.cell_grid.proofs.kept_span.KeptSpan.differs_in_size.Goals as goal

pub returns : goal.returns
unfolding span_kept
returns c = λ apart e.
    let same : c.args.self.bytes ≡ c.args.other.bytes = omega (arith, e) in
    true≢false (sym (eq-eqb c.args.self.bytes c.args.other.bytes same) ∙ not-true _ apart)
