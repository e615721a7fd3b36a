-- The goals of `new` that are answered by hand.
use Rattle.unicode_tables.specs.Words.{word_in}
use Rattle.unicode_tables.proofs.FirstBytes.{first_bytes-same}
use Rattle.unicode_tables.proofs.Marks.{words-tables, words-marks}
use Rattle.unicode_tables.proofs.tables.Tables.new.Goals as goal

pub invariant_of-result : goal.invariant_of-result
invariant_of-result c =
    let words = c.in_ok-words.words in (
      c.in_ok-words.ensures.table,
      words-marks c.args.bidi c.args.bracket c.args.mirror c.args.lb c.args.ea words c.in_ok-words.ensures.words,
      first_bytes-same words.first_bytes (word_in words) _ 0x110000 c.in_ok-words.ensures.words c.in_ok-words.ensures.first_bytes,
    )

pub returns : goal.returns
returns c = words-tables c.args.bidi c.args.bracket c.args.mirror c.args.lb c.args.ea c.in_ok-words.words c.in_ok-words.ensures.words
