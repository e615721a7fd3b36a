-- The goals of `fill_page` that are answered by hand.
use Rattle.std.proofs.Common.{◌≡◌, ◌+◌, ◌*◌, ◌∙◌, refl, sym, subst, arith}
use Rattle.unicode_tables.specs.FirstBytes.{AreFirstBytes}
use Rattle.unicode_tables.specs.Word.{absent_word, word_with}
use Rattle.unicode_tables.proofs.FirstBytes.{block-words}
use Rattle.unicode_tables.proofs.Pages.{run-put}
use Rattle.unicode_tables.proofs.words.fill_page.Goals as goal

pub returns-then-are_even-clause-words : goal.returns-then-are_even-clause-words
returns-then-are_even-clause-words c = λ k h.
    c.in_ok-resize.ensures.by_index.1 k absent_word refl (omega arith) h ∙ c.word-word.ensures ∙ sym (c.if-are_even.ensures refl k h)

pub returns-then-are_even-clause-first_bytes : goal.returns-then-are_even-clause-first_bytes
returns-then-are_even-clause-first_bytes c =
    let word = word_with c.args.properties.now in
    let own = c.word-word.result in
    c.add.ensures word c.requires.first_bytes
    (λ k ge lt. block-words word own c.args.block 0 256 (λ n low high. c.if-are_even.ensures refl n high ∙ sym c.word-word.ensures) k (omega arith) lt)

pub loop-from-init : goal.loop-from-init
loop-from-init c =
    let z : c.args.block * 256 ≡ c.args.block * 256 + 0 = omega arith in
    record {
      len = c.clear.ensures.len;
      within = omega arith;
      words = λ k h. absurd (omega arith);
      first_bytes = subst (λ n. AreFirstBytes (word_with c.args.properties.now) n c.args.first_bytes.now) z c.requires.first_bytes;
    }

pub add-requires-in-loop-from-clause-separators : goal.add-requires-in-loop-from-clause-separators
add-requires-in-loop-from-clause-separators c = c.loop-from.invariant.first_bytes.separators_len

pub add-requires-in-loop-from-clause-replaced : goal.add-requires-in-loop-from-clause-replaced
add-requires-in-loop-from-clause-replaced c = c.loop-from.invariant.first_bytes.replaced_len

pub loop-from-preserved : goal.loop-from-preserved
loop-from-preserved c = record {
  len = c.in_ok-resize-2.ensures.len;
  within = c.run_end-end.ensures.within;
  words =
      run-put c.args.properties.now c.args.block c.loop-from.page.items c.resize-in-loop-from.new.self.items c.loop-from.from c.run_end-end.result c.word-word-in-loop-from.result
      c.loop-from.invariant.words
      (λ k h lt. c.in_ok-resize-2.ensures.by_index.0 k absent_word h (omega arith))
      (λ k ge h. c.in_ok-resize-2.ensures.by_index.1 k absent_word refl (omega arith) h)
      c.run_end-end.ensures.same;
  first_bytes =
      c.add-in-loop-from.ensures (word_with c.args.properties.now) c.loop-from.invariant.first_bytes
      (block-words (word_with c.args.properties.now) c.word-word-in-loop-from.result c.args.block c.loop-from.from c.run_end-end.result c.run_end-end.ensures.same);
}

pub returns-clause-first_bytes : goal.returns-clause-first_bytes
returns-clause-first_bytes c =
    let within = c.loop-from.invariant.within in
    let end : c.args.block * 256 + c.loop-from.from ≡ c.args.block * 256 + 256 = omega arith in
    subst (λ n. AreFirstBytes (word_with c.args.properties.now) n c.loop-from.first_bytes) end c.loop-from.invariant.first_bytes
