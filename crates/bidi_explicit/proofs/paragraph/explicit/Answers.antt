-- What the rules make of the classes is the definition's of the text.
use Rattle.std.proofs.Common.{◌≡◌, ◌∙◌, ap, map, length}
use Rattle.std.specs.Prelude.{is_some}
use Rattle.std.proofs.lemmas.List.{length-map}
use Rattle.std.proofs.lemmas.List.Elements.{All-same}
use Rattle.unicode_tables.specs.Tables.{bidi_of}
use Rattle.paragraphs.specs.Text.{code_points}
use Rattle.bidi_explicit.specs.Embedding.{classes_of, embedding_at, IsWithinDepth}
use Rattle.bidi_explicit.proofs.Facts.{explicit_places-stay, length-explicit_places, explicit_places-within}
use Rattle.bidi_explicit.proofs.Whole.{IsLow, sequences-within}
use Rattle.bidi_explicit.proofs.paragraph.explicit.Goals as goal

pub returns-clause-places : goal.returns-clause-places
returns-clause-places c =
    let cs = classes_of c.args.tables.now c.args.para.now.text in
    let classes : c.deref.result.now ≡ cs = c.deref.ensures.value ∙ c.in_ok-classes.ensures ∙ ap (classes_of c.args.tables.now) c.text.ensures in
    let is = c.in_ok-embed.ensures.ok ∙ ap (embedding_at c.paragraph_level-level.result) classes in
    ap (λ e. length e.places) is ∙ length-explicit_places c.paragraph_level-level.result cs ∙ length-map (code_points c.args.para.now.text) (bidi_of c.args.tables.now)

pub returns-clause-removed : goal.returns-clause-removed
returns-clause-removed c =
    let cs = classes_of c.args.tables.now c.args.para.now.text in
    let classes : c.deref.result.now ≡ cs = c.deref.ensures.value ∙ c.in_ok-classes.ensures ∙ ap (classes_of c.args.tables.now) c.text.ensures in
    let is = c.in_ok-embed.ensures.ok ∙ ap (embedding_at c.paragraph_level-level.result) classes in
    ap (λ e. map is_some e.places) is ∙ explicit_places-stay c.paragraph_level-level.result cs

pub returns-clause-depth : goal.returns-clause-depth
returns-clause-depth c =
    All-same IsWithinDepth _ _ (ap (λ e. e.places) c.in_ok-embed.ensures.ok)
    (explicit_places-within c.paragraph_level-level.result c.deref.result.now c.paragraph_level-level.ensures.bound)

pub returns-clause-sequence_depth : goal.returns-clause-sequence_depth
returns-clause-sequence_depth c =
    All-same IsLow _ _ (ap (λ e. e.sequences) c.in_ok-embed.ensures.ok)
    (sequences-within c.paragraph_level-level.result c.deref.result.now c.paragraph_level-level.ensures.bound)
