-- The first tells the columns.
use Rattle.std.proofs.Common.{◌<◌, [], ◌∷◌, ap, ◌∙◌, length, arith}
use Rattle.std.proofs.lemmas.List.{get_or_default, length-map}
use Rattle.unicode_tables.specs.Word.{word_of}
use Rattle.paragraphs.specs.Columns.{columns_of}
use Rattle.paragraphs.proofs.OneColumns.{columns-of_marked, seen-some, word-first}
use Rattle.paragraphs.proofs.width.columns_of_marked.Goals as goal

pub bounds-words-0 : goal.bounds-words-0
bounds-words-0 c = omega (arith, seen-some c.args.words.now c.requires.seen)

pub bounds-points-0 : goal.bounds-points-0
bounds-points-0 c =
    omega (arith, seen-some c.args.words.now c.requires.seen, ap length c.requires.words, length-map c.args.points.now (word_of c.args.tables.now))

pub columns_of_one-requires : goal.columns_of_one-requires
columns_of_one-requires c =
    let points = c.args.points.now in
    let some = seen-some c.args.words.now c.requires.seen in
    let within : 0 < length points = omega (arith, ap length c.requires.words, length-map points (word_of c.args.tables.now)) in
    word-first c.args.tables.now points c.args.words.now c.index-points-0.result _ c.requires.words within c.index-points-0.is

pub returns : goal.returns
returns c =
    let points = c.args.points.now in
    let some = seen-some c.args.words.now c.requires.seen in
    let within : 0 < length points = omega (arith, ap length c.requires.words, length-map points (word_of c.args.tables.now)) in
    c.columns_of_one.ensures
    ∙ ap (λ x. columns_of c.args.tables.now (x ∷ [])) (c.index-points-0.is ∙ get_or_default points 0 c.index-points-0.result 0 within)
    ∙ columns-of_marked c.args.tables.now c.args.points.now c.args.words.now c.requires.words c.requires.seen c.requires.narrow
