-- Which code points are stepped over, as more of them get their words.
use Rattle.std.proofs.Common.{◌≡◌, ℕ, ◌+◌, ◌-◌, ◌*◌, ◌<◌, ◌≤◌, Bool, true, false, ◌||◌, Option, refl, sym, ap, ◌∙◌, arith}
use Rattle.std.specs.Prelude.{is_some}
use Rattle.bg_types.specs.declared.class.Bidi.{Bidi}
use Rattle.unicode_tables.specs.declared.first_bytes.FirstBytes.{FirstBytes}
use Rattle.unicode_tables.specs.declared.word.Word.{Word}
use Rattle.unicode_tables.specs.declared.words.Words.{Words}
use Rattle.unicode_tables.specs.Classes.{is_separator, is_segment_separator}
use Rattle.unicode_tables.specs.FirstBytes.{separates, is_replaced, StopAt, AreFirstBytes}
use Rattle.unicode_tables.specs.Words.{word_in}

-- the same words
pub first_bytes-same : (first_bytes : FirstBytes) (word other : ℕ → Word) (end : ℕ) → ((c : ℕ) → c < end → word c ≡ other c)
    → AreFirstBytes other end first_bytes → AreFirstBytes word end first_bytes
first_bytes-same first_bytes word other end same are = record {
  separators_len = are.separators_len;
  replaced_len = are.replaced_len;
  separators = λ c h yes. are.separators c h (sym (ap separates (same c h)) ∙ yes);
  replaced = λ c h yes. are.replaced c h (sym (ap is_replaced (same c h)) ∙ yes);
}

-- the words of a part of a block
pub block-words : (word : ℕ → Word) (own : Word) (block from end : ℕ) → ((k : ℕ) → from ≤ k → k < end → word (block * 256 + k) ≡ own)
    → (c : ℕ) → block * 256 + from ≤ c → c < block * 256 + end → word c ≡ own
block-words word own block from end same = λ c ge lt.
    let at : c ≡ block * 256 + (c - block * 256) = omega arith in
    ap word at ∙ same (c - block * 256) (omega arith) (omega arith)

-- ---- what tables say of the code points that are stepped over

or-true : (b : Bool) → (b || true) ≡ true
or-true true = refl
or-true false = refl

module _ (words : Words) (bidi : ℕ → Bidi) (are : AreFirstBytes (word_in words) 0x110000 words.first_bytes) (same : (c : ℕ) → c < 0x110000 → (word_in words c).bidi ≡ bidi c) where
  pub separators-stop : StopAt (λ c. is_separator (bidi c)) 0x110000 words.first_bytes.to_separators.steps
  separators-stop = λ c h yes.
      are.separators c h (ap (λ b. is_separator b || is_segment_separator b) (same c h) ∙ ap (λ t. t || is_segment_separator (bidi c)) yes)

  pub segments-stop : StopAt (λ c. is_segment_separator (bidi c)) 0x110000 words.first_bytes.to_separators.steps
  segments-stop = λ c h yes.
      are.separators c h (ap (λ b. is_separator b || is_segment_separator b) (same c h) ∙ ap (λ t. is_separator (bidi c) || t) yes ∙ or-true (is_separator (bidi c)))

  pub replaced-stop : (mirror : ℕ → Option ℕ) → ((c : ℕ) → c < 0x110000 → (word_in words c).has_mirror ≡ is_some (mirror c))
      → StopAt (λ c. is_segment_separator (bidi c) || is_some (mirror c)) 0x110000 words.first_bytes.to_replaced.steps
  replaced-stop mirror marks = λ c h yes.
      are.replaced c h (ap (λ b. is_segment_separator b || (word_in words c).has_mirror) (same c h) ∙ ap (λ t. is_segment_separator (bidi c) || t) (marks c h) ∙ yes)
