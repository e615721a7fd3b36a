-- Where the next one is plain.
use Rattle.std.proofs.Common.{map, ap, ◌∙◌}
use Rattle.std.proofs.lemmas.Simd.{map-map}
use Rattle.unicode_tables.specs.Word.{word_of}
use Rattle.unicode_tables.specs.declared.word.Word.{Word}
use Rattle.line_break.proofs.reached.Reached.put_plain.Goals as goal

pub put_plain_ones-requires-clause-plain : goal.put_plain_ones-requires-clause-plain
put_plain_ones-requires-clause-plain c =
    c.begins_plain.ensures c.if-begins_plain.true c.args.points.now
    (ap (map (λ (w : Word). w.is_plain)) c.requires.words ∙ map-map (λ (w : Word). w.is_plain) (word_of c.args.tables.now) c.args.points.now)
