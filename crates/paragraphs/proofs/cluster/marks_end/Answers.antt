-- The words tell where a plain code point stands.
use Rattle.std.proofs.Common.{◌≡◌, ◌-◌, refl, sym, ap, ◌∙◌, inl, inr, length, take, drop, get_or, arith}
use Rattle.std.proofs.lemmas.Bool.{cases_lt}
use Rattle.std.proofs.lemmas.List.{get_or_default}
use Rattle.std.specs.List.{list_any}
use Rattle.unicode_tables.specs.declared.word.Word.{Word}
use Rattle.paragraphs.specs.Classes.{is_wide}
use Rattle.paragraphs.specs.Marked.{is_mark}
use Rattle.paragraphs.proofs.Marked.{words-length, word-plain, narrow-on}
use Rattle.paragraphs.proofs.cluster.marks_end.Goals as goal

pub bounds-words-k : goal.bounds-words-k
bounds-words-k c = omega (arith, words-length c.args.points.now c.args.words.now c.requires.words)

pub returns-then-words-k-clause-behind : goal.returns-then-words-k-clause-behind
returns-then-words-k-clause-behind c = λ h.
    sym (word-plain c.args.points.now c.args.words.now c.requires.words c.loop-k.k _ h) ∙ c.if-words-k.true

pub loop-k-init : goal.loop-k-init
loop-k-init c = record { some = omega arith; within = omega (arith, c.requires.some); marks = λ j some lt. absurd (omega arith); narrow = refl }

pub loop-k-preserved : goal.loop-k-preserved
loop-k-preserved c =
    let now = c.loop-k.invariant in
    record {
      some = omega arith;
      within = omega (arith, c.loop-k-test.true);
      marks = λ j some lt. elim (cases_lt j c.loop-k.k) [
        | inl before ↦ now.marks j some before
        | inr here ↦
            let at : j ≡ c.loop-k.k = omega arith in
            ap (λ n. is_mark (get_or c.args.points.now n 0)) at
            ∙ ap is_mark (sym (c.index-points-k.is ∙ get_or_default c.args.points.now c.loop-k.k c.index-points-k.result 0 c.loop-k-test.true))
            ∙ sym c.is_mark.ensures ∙ c.if-not-is_mark.false
      ];
      narrow =
          narrow-on c.args.words.now c.loop-k.k _ now.some (omega (arith, words-length c.args.points.now c.args.words.now c.requires.words, c.loop-k-test.true)) now.narrow
          (sym c.is_wide.ensures ∙ c.if-is_wide.false);
    }

pub returns-clause-narrow : goal.returns-clause-narrow
returns-clause-narrow c =
    let all : length c.args.points.now ≡ c.loop-k.k = omega (arith, c.loop-k-test.false, c.loop-k.invariant.within) in
    ap (λ n. list_any (λ (w : Word). is_wide w.ea) (take (n - 1) (drop 1 c.args.words.now))) all ∙ c.loop-k.invariant.narrow
