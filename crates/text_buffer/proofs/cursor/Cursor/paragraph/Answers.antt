-- The paragraph is the one of its number, and stands behind those before it.
use Rattle.std.proofs.Common.{◌≡◌, ℕ, Option, List, [], length, take, get_or, sym, ap, ap₂, subst, ◌∙◌}
use Rattle.std.specs.List.{concat, slice_get}
use Rattle.std.specs.Prelude.{Some, encode_utf8_all, string_bytes}
use Rattle.std.proofs.lemmas.Str.{encodes-chars, IsUtf8-string_bytes}
use Rattle.paragraphs.specs.Text.{code_points}
use Rattle.paragraphs.specs.Paragraphs.{Paragraph, paragraphs}
use Rattle.paragraphs.proofs.Interface.{paragraph-at}
use Rattle.text_buffer.specs.Buffers.{bytes_in, paragraphs_in, IsSplit}
use Rattle.text_buffer.specs.Blocks.{pieces_in, texts_in}
use Rattle.text_buffer.proofs.Places.{seen-points}
use Rattle.text_buffer.proofs.Splits.{utf8-kept, split-parts}
use Rattle.text_buffer.proofs.Founds.{found-there}
use Rattle.text_buffer.proofs.cursor.Cursor.paragraph.Goals as goal

abbrev paragraph_with : List ℕ → ℕ → ℕ → Option Paragraph
paragraph_with text byte place = Some (record { text = text; first_byte = byte; first_place = place })

pub returns-clause-text : goal.returns-clause-text
returns-clause-text g c =
    let bs = c.self.inside.blocks.now in
    let view = sym (seen-points (pieces_in bs)) ∙ ap (λ v. paragraphs_in v.paragraphs) c.self.view_is in
    let number = ap (λ v. v.number) c.self.view_is in
    ap (λ p. code_points p.text) c.new.ensures ∙ ap code_points c.as_str.ensures.value ∙ c.piece_at-piece.ensures.points ∙ ap₂ (λ t n. get_or t n []) view number

pub returns-clause-first_byte : goal.returns-clause-first_byte
returns-clause-first_byte g c =
    let bs = c.self.inside.blocks.now in
    let view = sym (seen-points (pieces_in bs)) ∙ ap (λ v. paragraphs_in v.paragraphs) c.self.view_is in
    let number = ap (λ v. v.number) c.self.view_is in
    ap (λ p. p.first_byte) c.new.ensures ∙ c.self.invariant.found.bytes ∙ ap₂ (λ t n. bytes_in (concat (take n t))) view number

pub returns-clause-first_place : goal.returns-clause-first_place
returns-clause-first_place g c =
    let bs = c.self.inside.blocks.now in
    let view = sym (seen-points (pieces_in bs)) ∙ ap (λ v. paragraphs_in v.paragraphs) c.self.view_is in
    let number = ap (λ v. v.number) c.self.view_is in
    ap (λ p. p.first_place) c.new.ensures ∙ c.self.invariant.found.places ∙ ap₂ (λ t n. length (concat (take n t))) view number

pub returns-clause-paragraph : goal.returns-clause-paragraph
returns-clause-paragraph g c =
    let bs = c.self.inside.blocks.now in
    let f = c.self.inside.found in
    let s = c.self.invariant.found in
    let view = sym (seen-points (pieces_in bs)) ∙ ap (λ v. paragraphs_in v.paragraphs) c.self.view_is in
    let number = ap (λ v. v.number) c.self.view_is in
    let p = c.piece_at-piece.result.now in
    let text = ap encode_utf8_all (sym c.piece_at-piece.ensures.points) ∙ encodes-chars (string_bytes p.text) (IsUtf8-string_bytes p.text) ∙ sym c.as_str.ensures.value in
    let there = found-there bs f.block f.index f.number s.block s.inside s.number in
    λ tables split.
    let here_split = subst (IsSplit tables) (sym view) split in
    subst (λ n. slice_get (paragraphs tables (encode_utf8_all (concat (paragraphs_in c.args.self.now.paragraphs)))) n ≡ Some c.new.result) number
    (subst (λ kept. slice_get (paragraphs tables (encode_utf8_all (concat kept))) f.number ≡ Some c.new.result) view
    (paragraph-at tables (texts_in bs) f.number (utf8-kept bs) (split-parts tables (texts_in bs) (utf8-kept bs) here_split) there
    ∙ ap (λ t. paragraph_with t (bytes_in (concat (take f.number (texts_in bs)))) (length (concat (take f.number (texts_in bs))))) text
    ∙ ap₂ (paragraph_with c.as_str.result.now) (sym s.bytes) (sym s.places) ∙ ap Some (sym c.new.ensures)))
