-- The text is split whole.
use Rattle.std.proofs.Common.{◌≡◌, ℕ, List, [], ◌∷◌, length, map, refl, sym, ap, subst, ◌∙◌, arith}
use Rattle.std.specs.List.{concat}
use Rattle.std.proofs.lemmas.Str.{encodes-chars}
use Rattle.paragraphs.specs.Text.{code_points}
use Rattle.paragraphs.proofs.Interface.{points-parts}
use Rattle.text_buffer.specs.Buffers.{IsSplit, bytes_in, paragraphs_in}
use Rattle.text_buffer.specs.Edits.{anew}
use Rattle.text_buffer.specs.Pieces.{points_in, seen}
use Rattle.text_buffer.specs.Blocks.{pieces_in, texts_in}
use Rattle.text_buffer.proofs.Places.{blocks-some, length-points, seen-points, stands-first}
use Rattle.text_buffer.proofs.Edits.{points-anew}
use Rattle.text_buffer.proofs.Splits.{utf8-kept, parts-split, text-of_parts, split-of_parts, some-parts}
use Rattle.text_buffer.proofs.Counted.{counted-new}
use Rattle.text_buffer.proofs.buffer.Buffer.of.Goals as goal

pub sum_up-sums-requires : goal.sum_up-sums-requires
sum_up-sums-requires g c =
    let text = c.args.text.now in
    let is = points-anew c.in_ok-pieces.pieces.items _ c.in_ok-pieces.ensures ∙ points-parts c.args.tables.now text c.utf8.text in
    let bytes = ap (λ ps. bytes_in (concat (points_in ps))) c.deref.ensures.value ∙ ap bytes_in (text-of_parts c.args.tables.now _ (code_points text) is) ∙ ap length (encodes-chars text c.utf8.text) in
    record { few = omega (arith, bytes, c.if-text-gt-LIMIT.false) }

pub blocks_of-requires-clause-some : goal.blocks_of-requires-clause-some
blocks_of-requires-clause-some g c =
    let ps = c.in_ok-pieces.pieces.items in
    let is = points-anew ps _ c.in_ok-pieces.ensures ∙ points-parts c.args.tables.now c.args.text.now c.utf8.text in
    omega (arith, some-parts c.args.tables.now (points_in ps) (code_points c.args.text.now) is, length-points ps, c.in_ok-pieces.pieces.ok)

pub blocks_of-requires-clause-few : goal.blocks_of-requires-clause-few
blocks_of-requires-clause-few g c =
    let text = c.args.text.now in
    let is = points-anew c.in_ok-pieces.pieces.items _ c.in_ok-pieces.ensures ∙ points-parts c.args.tables.now text c.utf8.text in
    let bytes = ap bytes_in (text-of_parts c.args.tables.now _ (code_points text) is) ∙ ap length (encodes-chars text c.utf8.text) in
    omega (arith, bytes, c.if-text-gt-LIMIT.false)

pub invariant_of-result : goal.invariant_of-result
invariant_of-result g c =
    let text = c.args.text.now in
    let points = code_points text in
    let tables = c.args.tables.now in
    let bs = c.in_ok-blocks.blocks.items in
    let ps = c.in_ok-pieces.pieces.items in
    let is = ap points_in c.in_ok-blocks.ensures ∙ points-anew ps _ c.in_ok-pieces.ensures ∙ points-parts tables text c.utf8.text in
    let whole = text-of_parts tables (texts_in bs) points is in
    let given = ap (λ ps. concat (points_in ps)) c.deref.ensures.value ∙ ap (λ ps. concat (points_in ps)) (sym c.in_ok-blocks.ensures) ∙ whole in
    let bytes = c.sum_up-sums.ensures.bytes ∙ ap bytes_in given in
    let places = c.sum_up-sums.ensures.places ∙ ap length given in
    let size = ap length c.in_ok-blocks.ensures in
    let some = blocks-some bs (omega (arith, some-parts tables (texts_in bs) points is, length-points (pieces_in bs))) in
    counted-new tables bs _ _ _ _ points (stands-first bs _ some refl refl refl refl) (parts-split tables (texts_in bs) (utf8-kept bs) (split-of_parts tables (texts_in bs) points is)) whole bytes places
    (omega (arith, size, length-points (pieces_in bs), c.len-paragraphs.ensures, c.in_ok-pieces.pieces.ok)) (omega (arith, bytes, ap length (encodes-chars text c.utf8.text), c.if-text-gt-LIMIT.false))

pub returns-clause-text : goal.returns-clause-text
returns-clause-text g c =
    let text = c.args.text.now in
    let tables = c.args.tables.now in
    let bs = c.in_ok-blocks.blocks.items in
    let ps = c.in_ok-pieces.pieces.items in
    ap concat (seen-points (pieces_in bs))
    ∙ text-of_parts tables (texts_in bs) (code_points text) (ap points_in c.in_ok-blocks.ensures ∙ points-anew ps _ c.in_ok-pieces.ensures ∙ points-parts tables text c.utf8.text)

pub returns-clause-split : goal.returns-clause-split
returns-clause-split g c =
    let text = c.args.text.now in
    let tables = c.args.tables.now in
    let bs = c.in_ok-blocks.blocks.items in
    let ps = c.in_ok-pieces.pieces.items in
    let is = ap points_in c.in_ok-blocks.ensures ∙ points-anew ps _ c.in_ok-pieces.ensures ∙ points-parts tables text c.utf8.text in
    subst (IsSplit tables) (sym (seen-points (pieces_in bs))) (parts-split tables (texts_in bs) (utf8-kept bs) (split-of_parts tables (texts_in bs) (code_points text) is))

paragraphs-anew : (K : Type 0) (texts : List (List ℕ)) → paragraphs_in (map (anew {K = K}) texts) ≡ texts
paragraphs-anew K [] = refl
paragraphs-anew K (t ∷ texts) = ap (λ later. t ∷ later) (paragraphs-anew K texts)

pub returns-clause-nothing : goal.returns-clause-nothing
returns-clause-nothing g c =
    let is = ap (map seen) c.in_ok-blocks.ensures ∙ c.in_ok-pieces.ensures in
    is ∙ sym (ap (λ ps. map anew (paragraphs_in ps)) is ∙ ap (map anew) (paragraphs-anew _ _))
