-- The goals of `ea` that are answered by hand.
use Rattle.std.proofs.Common.{ap, ◌∙◌, sym, arith}
use Rattle.bg_types.specs.declared.class.Ea.TheVariants.{N}
use Rattle.unicode_tables.specs.Tables.{ea_of}
use Rattle.unicode_tables.specs.Words.{word_in}
use Rattle.unicode_tables.proofs.CodePoints.{each_below-at}
use Rattle.unicode_tables.proofs.tables.Tables.ea.Goals as goal

pub returns : goal.returns
returns c =
    let words = c.self.inside.words in
    ap (λ w. w.ea) c.at.ensures
    ∙ sym (each_below-at 0x110000 (λ k. (word_in words k).ea) c.args.c N (omega (arith, c.ranges.c)))
    ∙ ap (λ tables. ea_of tables c.args.c) c.self.view_is
