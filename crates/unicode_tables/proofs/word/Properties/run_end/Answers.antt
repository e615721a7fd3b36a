-- The goals of `run_end` that are answered by hand.
use Rattle.std.proofs.Common.{◌≡◌, ◌+◌, ◌*◌, ◌∙◌, ap, sym, inl, inr, refl, arith}
use Rattle.std.proofs.lemmas.Bool.{cases_lt}
use Rattle.unicode_tables.specs.Word.{word_with}
use Rattle.unicode_tables.proofs.word.Properties.run_end.Goals as goal

pub returns-then-not-is_by_properties-clause-same : goal.returns-then-not-is_by_properties-clause-same
returns-then-not-is_by_properties-clause-same c = λ k ge lt.
    let at : k ≡ c.args.from = omega arith in
    ap (λ n. word_with c.args.self.now (c.args.block * 256 + n)) at ∙ sym c.requires.word

pub loop-place-init : goal.loop-place-init
loop-place-init c = λ k ge lt.
    let at : k ≡ c.args.from = omega arith in
    ap (λ n. word_with c.args.self.now (c.args.block * 256 + n)) at ∙ sym c.requires.word

pub has_word-requires-clause-word : goal.has_word-requires-clause-word
has_word-requires-clause-word c = record { place = c.args.from; within = c.requires.from; is = c.requires.word }

pub loop-place-preserved : goal.loop-place-preserved
loop-place-preserved c = λ k ge lt. elim (cases_lt k c.loop-place.place) [
  | inl before ↦ c.loop-place.invariant k ge before
  | inr here ↦
      let at : k ≡ c.loop-place.place = omega arith in
      ap (λ n. word_with c.args.self.now (c.args.block * 256 + n)) at ∙ c.if-not-has_word.ensures refl
]
