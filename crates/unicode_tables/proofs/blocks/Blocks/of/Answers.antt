-- The goals of `of` that are answered by hand.
use Rattle.std.proofs.Common.{◌∙◌, sym, refl, false, arith}
use Rattle.unicode_tables.proofs.BlockValues.{all-same, of-value}
use Rattle.unicode_tables.proofs.blocks.Blocks.of.Goals as goal

pub returns-clause-whole : goal.returns-clause-whole
returns-clause-whole g c =
    let len = sym c.resize-2.new.self.ok.0 ∙ c.in_ok-resize-2.ensures.len in record {
      values = sym c.resize.new.self.ok.0 ∙ c.in_ok-resize.ensures.len;
      paged = len;
      pages = omega (arith, c.in_ok-pages.ensures, c.in_ok-pages.pages.ok);
      full = λ b on. absurd (
          let off = all-same c.resize-2.new.self.items 4352 b false len
          (λ k h. c.in_ok-resize-2.ensures.by_index.1 k false refl (omega (arith, c.new-paged.ensures.len)) (omega (arith, h, c.in_ok-resize-2.ensures.len))) in cc
          );
    }

pub returns-clause-value : goal.returns-clause-value
returns-clause-value g c = λ k d h.
    let len = sym c.resize-2.new.self.ok.0 ∙ c.in_ok-resize-2.ensures.len in
    of-value c.resize-2.new.self.items c.in_ok-pages.pages.items c.resize.new.self.items c.args.value k d
    (λ b. all-same c.resize-2.new.self.items 4352 b false len
    (λ j below. c.in_ok-resize-2.ensures.by_index.1 j false refl (omega (arith, c.new-paged.ensures.len)) (omega (arith, below, c.in_ok-resize-2.ensures.len))))
    (λ b e below. c.in_ok-resize.ensures.by_index.1 b e refl (omega (arith, c.new-values.ensures.len)) (omega (arith, below, c.in_ok-resize.ensures.len)))
    h
