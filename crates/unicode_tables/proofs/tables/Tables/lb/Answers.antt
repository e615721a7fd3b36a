-- The goals of `lb` that are answered by hand.
use Rattle.std.proofs.Common.{ap, ◌∙◌, sym, arith}
use Rattle.bg_types.specs.declared.class.Lb.TheVariants.{Xx}
use Rattle.unicode_tables.specs.Tables.{lb_of}
use Rattle.unicode_tables.specs.Words.{word_in}
use Rattle.unicode_tables.proofs.CodePoints.{each_below-at}
use Rattle.unicode_tables.proofs.tables.Tables.lb.Goals as goal

pub returns : goal.returns
returns c =
    let words = c.self.inside.words in
    ap (λ w. w.lb) c.at.ensures
    ∙ sym (each_below-at 0x110000 (λ k. (word_in words k).lb) c.args.c Xx (omega (arith, c.ranges.c)))
    ∙ ap (λ tables. lb_of tables c.args.c) c.self.view_is
