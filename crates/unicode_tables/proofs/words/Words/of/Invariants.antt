-- What stays true in the loop of `of`.
use Rattle.std.proofs.Common.{◌*◌}
use Rattle.unicode_tables.specs.FirstBytes.{AreFirstBytes}
use Rattle.unicode_tables.specs.Word.{word_with}
use Rattle.unicode_tables.proofs.Pages.{AreFirst}
use Rattle.unicode_tables.proofs.words.Words.of.Given as goal

abbrev pub invariant-loop-block : goal.invariant-loop-block
invariant-loop-block l = record {
  words : AreFirst l.properties l.starts.items l.pages.items l.block;
  first_bytes : AreFirstBytes (word_with l.properties) (l.block * 256) l.first_bytes;
}
