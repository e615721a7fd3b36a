-- The goals of `bracket` that are answered by hand.
use Rattle.std.proofs.Common.{ap, ◌∙◌, sym, get_or, arith}
use Rattle.unicode_tables.specs.declared.bracket.Bracket.TheVariants.{None}
use Rattle.unicode_tables.specs.Tables.{bracket_of}
use Rattle.unicode_tables.proofs.CodePoints.{each_below-at}
use Rattle.unicode_tables.proofs.Properties.{not_on}
use Rattle.unicode_tables.proofs.Marks.{bracket-absent}
use Rattle.unicode_tables.proofs.tables.Tables.bracket.Goals as goal

pub returns-then-not-at : goal.returns-then-not-at
returns-then-not-at c =
    let tables = c.self.inside in
    bracket-absent tables.words tables.bracket tables.mirror c.args.c (omega (arith, c.ranges.c)) c.self.invariant.1
    (ap (λ w. w.is_bracket) (sym c.at.ensures) ∙ not_on c.at.result.is_bracket c.if-not-at.true)
    ∙ ap (λ tables. bracket_of tables c.args.c) c.self.view_is

pub returns : goal.returns
returns c =
    c.get.ensures None
    ∙ sym (each_below-at 0x110000 (λ k. get_or c.self.inside.bracket k None) c.args.c None (omega (arith, c.ranges.c)))
    ∙ ap (λ tables. bracket_of tables c.args.c) c.self.view_is
