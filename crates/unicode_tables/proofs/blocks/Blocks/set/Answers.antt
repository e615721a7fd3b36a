-- The goals of `set` that are answered by hand.
use Rattle.std.proofs.Common.{◌+◌, ◌*◌, ◌/◌, ◌%◌, ◌<◌, ◌∙◌, cond, leb, ltb, ap, inl, inr, arith}
use Rattle.std.specs.Prelude.{◌&&◌}
use Rattle.std.proofs.lemmas.Bool.{cases_lt}
use Rattle.unicode_tables.specs.Blocks.{value_in}
use Rattle.unicode_tables.proofs.Ranges.{range-more}
use Rattle.unicode_tables.proofs.blocks.Blocks.set.Goals as goal

pub returns-clause-ok : goal.returns-clause-ok
returns-clause-ok g c = λ k d h.
    let first = c.args.first in
    let last = c.args.last in
    let value = c.args.value in
    let less : first / 256 < last / 256 = elim (cases_lt (first / 256) (last / 256)) [
      | inl lt ↦ lt
      | inr ge ↦ absurd (c.if-front-back.false (omega (arith, c.requires.rising)))
    ] in
    c.set_whole.ensures.value k d h
    ∙ ap (cond (leb ((first / 256 + 1) * 256) k && ltb k (last / 256 * 256)) value)
    (c.set_part-3.ensures.value k d
    ∙ ap (cond (leb (last / 256 * 256 + 0) k && ltb k (last / 256 * 256 + (last % 256 + 1))) value)
    (c.set_part-2.ensures.value k d
    ∙ ap (cond (leb (first / 256 * 256 + first % 256) k && ltb k (first / 256 * 256 + 256)) value)
    (c.give_page-2.ensures.same k d ∙ c.give_page.ensures.same k d)))
    ∙ range-more first last k value (value_in c.args.self.now k d) less
