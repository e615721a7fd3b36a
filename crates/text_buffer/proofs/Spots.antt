-- A spot of a block is one of the text.
use Rattle.std.proofs.Common.{◌≡◌, ℕ, ◌+◌, ◌-◌, ◌<◌, ◌≤◌, List, [], ◌++◌, length, take, get_or, sym, ap, ap₂, ◌∙◌, inl, inr, arith}
use Rattle.std.proofs.lemmas.Bool.{cases_lt}
use Rattle.std.proofs.lemmas.List.{take-map}
use Rattle.std.specs.List.{concat}
use Rattle.text_buffer.specs.declared.piece.Piece.{Piece}
use Rattle.text_buffer.specs.declared.block.Block.{Block}
use Rattle.text_buffer.specs.declared.find.Before.{Before}
use Rattle.text_buffer.specs.declared.find.Spot.{Spot}
use Rattle.text_buffer.specs.Buffers.{bytes_in}
use Rattle.text_buffer.specs.Edits.{IsParagraphOf}
use Rattle.text_buffer.specs.Pieces.{points_of, points_in}
use Rattle.text_buffer.specs.Blocks.{joined, rows_of, pieces_in, texts_in}
use Rattle.text_buffer.specs.Places.{IsInFront, StandsAt}
use Rattle.text_buffer.proofs.Sums.{bytes-both, places-both}
use Rattle.text_buffer.proofs.Texts.{places-more-at}
use Rattle.text_buffer.proofs.Places.{kept-at, take-at, parts-of, length-points}

pub paragraph-of : (kept : List (List ℕ)) (place : ℕ) (s : Spot) → StandsAt kept place s → IsParagraphOf kept place s.number
paragraph-of kept place s at =
    record {
      there = at.there;
      begun = omega (arith, at.place_is);
      last = λ more. let near = at.inside more in omega (arith, near, at.place_is, places-more-at kept s.number at.there);
    }

module _ {K : Type 0} where
  pub front-of : (bs : List (Block K)) (b : Before) → IsInFront bs b → (j : ℕ) → j ≤ length (get_or (rows_of bs) b.block [])
      → take (b.paragraphs + j) (texts_in bs) ≡ points_in (joined (take b.block (rows_of bs)) ++ take j (get_or (rows_of bs) b.block []))
  front-of bs b s j inside = take-map points_of (b.paragraphs + j) (pieces_in bs) ∙ ap points_in (take-at bs b s j inside)

  pub spot-among : (bs : List (Block K)) (b : Before) → IsInFront bs b → (ps : List (Piece K)) → get_or (rows_of bs) b.block [] ≡ ps → (place : ℕ) → b.places ≤ place
      → (here : Spot) → StandsAt (points_in ps) (place - b.places) here
      → (b.block + 1 < length bs → place < b.places + length (concat (points_in ps))) → (place - b.places < length (concat (points_in ps)) → here.offset < length (get_or (points_in ps) here.number []))
      → (spot : Spot) → spot.number ≡ b.paragraphs + here.number → spot.bytes ≡ b.bytes + here.bytes → spot.offset ≡ here.offset → StandsAt (texts_in bs) place spot
  spot-among bs b s ps row place reached here at later inside spot number bytes offset =
      let j = here.number in
      let a = joined (take b.block (rows_of bs)) in
      let r = get_or (rows_of bs) b.block [] in
      let size = ap length row in
      let all = parts-of bs b s in
      let there = at.there in
      let near : j < length r = omega (arith, there, length-points ps, size) in
      let front = ap (λ n. take n (texts_in bs)) number ∙ front-of bs b s j (omega (arith, near)) in
      let own = ap (λ t. points_in (take j t)) row ∙ sym (take-map points_of j ps) in
      let text = ap (λ n. get_or (texts_in bs) n []) number ∙ kept-at bs b s j near ∙ ap (λ t. get_or (points_in t) j []) row in
      let few = ap length text in
      record {
        there = omega (arith, number, all.paragraphs, near);
        bytes = bytes ∙ ap₂ (λ m n. m + n) s.bytes (at.bytes ∙ sym (ap (λ t. bytes_in (concat t)) own)) ∙ sym (ap (λ t. bytes_in (concat t)) front ∙ bytes-both a (take j r));
        place_is = let before = ap (λ t. length (concat t)) front ∙ places-both a (take j r) in omega (arith, before, ap (λ t. length (concat t)) own, s.places, at.place_is, reached, offset);
        within = omega (arith, few, offset, at.within);
        inside = λ more.
            elim (cases_lt (b.block + 1) (length bs)) [
              | inl next ↦ let one = inside (omega (arith, later next, reached)) in omega (arith, few, offset, one)
              | inr last ↦
                  let none = ap (λ t. length (joined t)) (all.last last) in
                  let one = at.inside (omega (arith, all.paragraphs, none, size, length-points ps, number, more)) in
                  omega (arith, few, offset, one)
            ];
      }
