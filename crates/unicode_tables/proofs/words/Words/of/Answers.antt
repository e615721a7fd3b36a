-- The goals of `of` that are answered by hand.
use Rattle.std.proofs.Common.{◌≡◌, ◌+◌, ◌-◌, ◌*◌, ◌<◌, ◌++◌, refl, ap, sym, subst, ◌∙◌, get_or, arith}
use Rattle.std.proofs.lemmas.List.{get_or_default}
use Rattle.unicode_tables.specs.FirstBytes.{AreFirstBytes}
use Rattle.unicode_tables.specs.Word.{absent_word, word_with}
use Rattle.unicode_tables.proofs.FirstBytes.{block-words}
use Rattle.unicode_tables.proofs.Pages.{first-none, first-shared, first-put, first-words, word-last}
use Rattle.unicode_tables.proofs.words.Words.of.Goals as goal

pub index-requires-then-block-gt0 : goal.index-requires-then-block-gt0
index-requires-then-block-gt0 c =
    let w = c.loop-block.invariant.words in
    let starts = c.loop-block.starts.items in
    let start = c.index.ensures ∙ get_or_default starts (c.loop-block.block - 1) c.index.result.now 0 (omega (arith, w.len, c.if-block-gt0.true)) in
    omega (arith, start, w.within (c.loop-block.block - 1) (omega arith))

pub repeat-requires-clause-before : goal.repeat-requires-clause-before
repeat-requires-clause-before c =
    let w = c.loop-block.invariant.words in
    let starts = c.loop-block.starts.items in
    let pages = c.loop-block.pages.items in
    let start = c.index.ensures ∙ get_or_default starts (c.loop-block.block - 1) c.index.result.now 0 (omega (arith, w.len, c.if-block-gt0.true)) in
    let inside = w.within (c.loop-block.block - 1) (omega arith) in
    c.index-then-block-gt0.ensures
    ∙ get_or_default pages c.index.result.now c.index-then-block-gt0.result.now absent_word (omega (arith, start, inside))
    ∙ ap (λ k. get_or pages k absent_word) start
    ∙ word-last c.args.properties.now starts pages c.loop-block.block w c.if-block-gt0.true

pub loop-block-init : goal.loop-block-init
loop-block-init c = record {
  words = first-none c.args.properties.now c.in_ok-starts.starts.items c.new-pages.result.items c.in_ok-starts.ensures.items;
  first_bytes = c.new-first_bytes.ensures (word_with c.args.properties.now);
}

pub add-requires-clause-separators : goal.add-requires-clause-separators
add-requires-clause-separators c = c.loop-block.invariant.first_bytes.separators_len

pub add-requires-clause-replaced : goal.add-requires-clause-replaced
add-requires-clause-replaced c = c.loop-block.invariant.first_bytes.replaced_len

pub loop-block-preserved-then-repeat : goal.loop-block-preserved-then-repeat
loop-block-preserved-then-repeat c =
    let w = c.loop-block.invariant.words in
    let starts = c.loop-block.starts.items in
    let pages = c.loop-block.pages.items in
    let n = c.loop-block.block in
    let words = word_with c.args.properties.now in
    let own = c.index-then-repeat.result.now in
    let some : 0 < n = omega (arith, c.if-block-gt0.true) in
    let start = c.index-shared.ensures ∙ get_or_default starts (n - 1) c.index-shared.result.now 0 (omega (arith, w.len, some)) in
    let inside = w.within (n - 1) (omega arith) in
    let before = c.index-then-repeat.ensures ∙ get_or_default pages c.index-shared.result.now own absent_word (omega (arith, start, inside))
    ∙ ap (λ k. get_or pages k absent_word) start ∙ word-last c.args.properties.now starts pages n w some in
    let next : n * 256 + 256 ≡ (n + 1) * 256 = omega arith in
    record {
      words =
          first-shared c.args.properties.now starts c.push.new.self.items c.loop-block.pages.items c.index-shared.result.now c.loop-block.block
          w c.in_ok-push.ensures.items c.if-block-gt0.true
          (c.index-shared.ensures ∙ get_or_default starts (c.loop-block.block - 1) c.index-shared.result.now 0 (omega (arith, w.len, c.if-block-gt0.true)))
          (c.if-repeat.ensures.same refl);
      first_bytes =
          subst (λ k. AreFirstBytes words k c.add.new.self) next
          (c.add.ensures words c.loop-block.invariant.first_bytes
          (λ k ge lt. block-words words own n 0 256 (λ place low high. c.if-repeat.ensures.one refl place high ∙ sym before) k (omega arith) lt));
    }

pub fill_page-requires-clause-first_bytes : goal.fill_page-requires-clause-first_bytes
fill_page-requires-clause-first_bytes c = c.loop-block.invariant.first_bytes

pub loop-block-preserved : goal.loop-block-preserved
loop-block-preserved c =
    let pages = c.loop-block.pages in
    let page = c.fill_page.new.page in
    let next : c.loop-block.block * 256 + 256 ≡ (c.loop-block.block + 1) * 256 = omega arith in
    record {
      words =
          first-put c.args.properties.now c.loop-block.starts.items c.push-in-loop-block.new.self.items pages.items page.items c.extend_from_slice.new.self.items
          c.len.result c.loop-block.block
          c.loop-block.invariant.words c.in_ok-push-2.ensures.items (c.len.ensures ∙ pages.ok.0) (sym page.ok.0 ∙ c.in_ok-fill_page.ensures.len)
          c.in_ok-fill_page.ensures.words
          (c.in_ok-extend_from_slice.ensures.items ∙ ap (λ p. pages.items ++ p) c.deref.ensures.value);
      first_bytes = subst (λ n. AreFirstBytes (word_with c.args.properties.now) n c.fill_page.new.first_bytes) next c.in_ok-fill_page.ensures.first_bytes;
    }

pub returns-clause-words : goal.returns-clause-words
returns-clause-words c =
    first-words c.args.properties.now (record { starts = c.loop-block.starts; pages = c.loop-block.pages; first_bytes = c.loop-block.first_bytes }) c.loop-block.block c.loop-block.invariant.words
    (omega arith)

pub returns-clause-first_bytes : goal.returns-clause-first_bytes
returns-clause-first_bytes c =
    let all : c.loop-block.block * 256 ≡ 0x110000 = omega arith in
    subst (λ n. AreFirstBytes (word_with c.args.properties.now) n c.loop-block.first_bytes) all c.loop-block.invariant.first_bytes
