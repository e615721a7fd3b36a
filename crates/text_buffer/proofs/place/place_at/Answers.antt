-- The two parts of the paragraph stand round the place.
use Rattle.std.proofs.Common.{◌≡◌, ◌+◌, ◌++◌, [], length, take, get_or, ap, ap₂, ◌∙◌, arith}
use Rattle.std.proofs.lemmas.List.{take-append-drop, length-take-le, length-append, length-drop}
use Rattle.std.proofs.lemmas.Str.{encodes-chars}
use Rattle.std.specs.List.{concat}
use Rattle.paragraphs.specs.Text.{code_points}
use Rattle.text_buffer.specs.Buffers.{bytes_in}
use Rattle.text_buffer.specs.Blocks.{texts_in}
use Rattle.text_buffer.proofs.Sums.{bytes_in-append, bytes-some}
use Rattle.text_buffer.proofs.Edits.{text-front}
use Rattle.text_buffer.proofs.place.place_at.Goals as goal

pub overflow_add-result : goal.overflow_add-result
overflow_add-result g c =
    let kept = texts_in c.args.blocks.now in
    let at = c.spot_at.ensures.spot in
    let n = c.spot_at.result.1.number in
    let o = c.spot_at.result.1.offset in
    let p = code_points c.as_str.result.now in
    let f = code_points c.parted.result.0.now in
    let b = code_points c.parted.result.1.now in
    let own : f ++ b ≡ get_or kept n [] = ap₂ (λ x y. x ++ y) c.parted.ensures.front c.parted.ensures.back ∙ take-append-drop o p ∙ (ap code_points c.as_str.ensures.value ∙ c.piece_of-piece.ensures) in
    let size = ap length c.parted.ensures.front ∙ length-take-le o p (omega (arith, at.within, ap length (ap code_points c.as_str.ensures.value ∙ c.piece_of-piece.ensures))) in
    let stands : length (concat (take n kept)) + length f ≡ c.args.place = omega (arith, size, at.place_is) in
    let front = ap bytes_in (text-front kept n c.args.place f b at.there own stands) ∙ bytes_in-append (concat (take n kept)) f in
    let same = ap length (encodes-chars c.parted.result.0.now c.parted.ensures.first) in
    omega (arith, front, same, at.bytes, bytes-some (concat kept) c.args.place, c.requires.fits.bytes)

pub piece_of-piece-requires : goal.piece_of-piece-requires
piece_of-piece-requires g c = record { stands = c.spot_at.ensures.stands; reached = c.spot_at.ensures.first; here = c.spot_at.ensures.here }

pub returns-clause-block : goal.returns-clause-block
returns-clause-block g c = record { stands = c.spot_at.ensures.stands; reached = c.spot_at.ensures.first; here = c.spot_at.ensures.here }

pub overflow_sub-result : goal.overflow_sub-result
overflow_sub-result g c = omega (arith, c.piece_of-piece.result.now.counted, ap length c.piece_of-piece.ensures, c.spot_at.ensures.spot.within)

pub returns-clause-rest : goal.returns-clause-rest
returns-clause-rest g c =
    omega (arith, c.piece_of-piece.result.now.counted, ap length c.piece_of-piece.ensures, ap length (ap code_points c.as_str.ensures.value ∙ c.piece_of-piece.ensures), ap length c.parted.ensures.back, length-drop c.spot_at.result.1.offset (code_points c.as_str.result.now))

pub returns-clause-parted : goal.returns-clause-parted
returns-clause-parted g c =
    let kept = texts_in c.args.blocks.now in
    let at = c.spot_at.ensures.spot in
    let n = c.spot_at.result.1.number in
    let o = c.spot_at.result.1.offset in
    let p = code_points c.as_str.result.now in
    let f = code_points c.parted.result.0.now in
    let b = code_points c.parted.result.1.now in
    let own : f ++ b ≡ get_or kept n [] = ap₂ (λ x y. x ++ y) c.parted.ensures.front c.parted.ensures.back ∙ take-append-drop o p ∙ (ap code_points c.as_str.ensures.value ∙ c.piece_of-piece.ensures) in
    let size = ap length c.parted.ensures.front ∙ length-take-le o p (omega (arith, at.within, ap length (ap code_points c.as_str.ensures.value ∙ c.piece_of-piece.ensures))) in
    let stands : length (concat (take n kept)) + length f ≡ c.args.place = omega (arith, size, at.place_is) in
    let front = ap bytes_in (text-front kept n c.args.place f b at.there own stands) ∙ bytes_in-append (concat (take n kept)) f in
    let same = ap length (encodes-chars c.parted.result.0.now c.parted.ensures.first) in
    record {
      there = at.there;
      front = c.parted.ensures.first;
      back = c.parted.ensures.second;
      own = own;
      place = stands;
      bytes = omega (arith, front, same, at.bytes);
      more = λ more. omega (arith, at.inside more, size, ap length own, length-append f b);
    }
