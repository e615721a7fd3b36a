-- The goals of `mirror` that are answered by hand.
use Rattle.std.proofs.Common.{ap, ◌∙◌, sym, get_or, arith, None}
use Rattle.unicode_tables.specs.Tables.{mirror_of}
use Rattle.unicode_tables.proofs.CodePoints.{each_below-at}
use Rattle.unicode_tables.proofs.Properties.{not_on}
use Rattle.unicode_tables.proofs.Marks.{mirror-absent}
use Rattle.unicode_tables.proofs.tables.Tables.mirror.Goals as goal

pub returns-then-not-at : goal.returns-then-not-at
returns-then-not-at c =
    let tables = c.self.inside in
    mirror-absent tables.words tables.bracket tables.mirror c.args.c (omega (arith, c.ranges.c)) c.self.invariant.1
    (ap (λ w. w.has_mirror) (sym c.at.ensures) ∙ not_on c.at.result.has_mirror c.if-not-at.true)
    ∙ ap (λ tables. mirror_of tables c.args.c) c.self.view_is

pub returns : goal.returns
returns c =
    c.get.ensures None
    ∙ sym (each_below-at 0x110000 (λ k. get_or c.self.inside.mirror k None) c.args.c None (omega (arith, c.ranges.c)))
    ∙ ap (λ tables. mirror_of tables c.args.c) c.self.view_is
