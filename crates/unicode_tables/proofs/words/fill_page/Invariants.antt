-- What stays true in the loop of `fill_page`.
use Rattle.std.proofs.Common.{◌≡◌, ℕ, ◌+◌, ◌-◌, ◌*◌, ◌<◌, ◌≤◌, get_or, vec_len}
use Rattle.unicode_tables.specs.FirstBytes.{AreFirstBytes}
use Rattle.unicode_tables.specs.Word.{absent_word, word_with}
use Rattle.unicode_tables.proofs.words.fill_page.Given as goal

abbrev pub invariant-loop-from : goal.invariant-loop-from
invariant-loop-from l = record {
  len : vec_len l.page ≡ l.from;
  within : l.from ≤ 256;
  words : (k : ℕ) → k < l.from → get_or l.page.items k absent_word ≡ word_with l.properties (l.block * 256 + k);
  first_bytes : AreFirstBytes (word_with l.properties) (l.block * 256 + l.from) l.first_bytes;
}

abbrev pub decreases-loop-from : goal.decreases-loop-from
decreases-loop-from l = 256 - l.from
