-- A paragraph that was found in its block stands so among all.
use Rattle.std.proofs.Common.{◌≡◌, ℕ, zero, suc, ◌+◌, ◌<◌, List, [], ◌∷◌, ◌++◌, None, length, take, drop, get_or, sym, ap, ◌∙◌, arith}
use Rattle.std.proofs.lemmas.List.{length-append, get_or-map}
use Rattle.std.proofs.lemmas.List.Concat.{get_or-flat_map}
use Rattle.std.specs.List.{concat}
use Rattle.text_buffer.specs.declared.piece.Piece.{Piece}
use Rattle.text_buffer.specs.declared.block.Block.{Block}
use Rattle.text_buffer.specs.declared.find.Before.{Before}
use Rattle.text_buffer.specs.declared.found.Found.{Found}
use Rattle.text_buffer.specs.Buffers.{bytes_in}
use Rattle.text_buffer.specs.Pieces.{points_of, points_in, kept_of}
use Rattle.text_buffer.specs.Blocks.{joined, rows_of, pieces_in, texts_in}
use Rattle.text_buffer.specs.Places.{IsInFront, IsFound}
use Rattle.text_buffer.proofs.Sums.{bytes-both, places-both}
use Rattle.text_buffer.proofs.Joins.{joined-at, joined-more}
use Rattle.text_buffer.proofs.Places.{length-rows, row-get, length-points}
use Rattle.text_buffer.proofs.Spots.{front-of}

module _ {K : Type 0} where
  -- a block has a paragraph
  pub row-some : (bs : List (Block K)) (q : ℕ) → q < length bs → 0 < length (get_or (rows_of bs) q [])
  row-some [] q within = absurd (omega (arith, within))
  row-some (b ∷ bs) zero within = omega (arith, b.some, b.pieces.ok)
  row-some (b ∷ bs) (suc q) within = row-some bs q (omega (arith, within))

  -- how many paragraphs stand before a block, in it and behind it
  pub texts-length : (bs : List (Block K)) (q : ℕ) → q < length bs
      → length (texts_in bs) ≡ length (joined (take q (rows_of bs))) + (length (get_or (rows_of bs) q []) + length (joined (drop (q + 1) (rows_of bs))))
  texts-length bs q within =
      let rows = rows_of bs in
      let a = joined (take q rows) in
      let r = get_or rows q [] in
      let c = joined (drop (q + 1) rows) in
      length-points (pieces_in bs) ∙ ap length (joined-at rows q (omega (arith, length-rows bs, within))) ∙ length-append a (r ++ c) ∙ ap (λ n. length a + n) (length-append r c)

  -- and up to its end
  pub length-more : (bs : List (Block K)) (q : ℕ) → q < length bs → length (joined (take (q + 1) (rows_of bs))) ≡ length (joined (take q (rows_of bs))) + length (get_or (rows_of bs) q [])
  length-more bs q within =
      let rows = rows_of bs in
      ap length (joined-more rows q (omega (arith, length-rows bs, within))) ∙ length-append (joined (take q rows)) (get_or rows q [])

module _ {K : Type 0} (bs : List (Block K)) (q i n : ℕ) (within : q < length bs) (inside : i < length (get_or (rows_of bs) q [])) (number : n ≡ length (joined (take q (rows_of bs))) + i) where
  pub found-there : n < length (texts_in bs)
  found-there = omega (arith, texts-length bs q within, inside, number)

  found-one : (r : Block K) (p : Piece K) → p ≡ get_or (get_or bs q r).pieces.items i p → get_or (pieces_in bs) n p ≡ p
  found-one r p at =
      let rows = rows_of bs in
      ap (λ k. get_or (joined rows) k p) number ∙ get_or-flat_map (λ (x : List (Piece K)). x) rows q i [] p (omega (arith, length-rows bs, within)) inside
      ∙ ap (λ row. get_or row i p) (row-get bs q r within) ∙ sym at

  pub found-points : (r : Block K) (p : Piece K) → p ≡ get_or (get_or bs q r).pieces.items i p → points_of p ≡ get_or (texts_in bs) n []
  found-points r p at =
      sym (get_or-map points_of (pieces_in bs) n p [] (omega (arith, found-there, length-points (pieces_in bs))) ∙ ap points_of (found-one r p at))

  pub found-kept : (r : Block K) (p : Piece K) → p ≡ get_or (get_or bs q r).pieces.items i p → p.kept ≡ get_or (kept_of (pieces_in bs)) n None
  found-kept r p at =
      sym (get_or-map (λ (x : Piece K). x.kept) (pieces_in bs) n p None (omega (arith, found-there, length-points (pieces_in bs))) ∙ ap (λ (x : Piece K). x.kept) (found-one r p at))

module _ {K : Type 0} where
  -- behind what stands before its block, and before it there
  pub found-behind : (bs : List (Block K)) (b : Before) → IsInFront bs b → (f : Found) → f.block ≡ b.block → b.paragraphs + f.index ≡ f.number → f.index < length (get_or (rows_of bs) b.block [])
      → f.bytes ≡ b.bytes + bytes_in (concat (points_in (take f.index (get_or (rows_of bs) b.block []))))
      → f.places ≡ b.places + length (concat (points_in (take f.index (get_or (rows_of bs) b.block [])))) → IsFound bs f
  found-behind bs b s f block number inside bytes places =
      let rows = rows_of bs in
      let a = joined (take b.block rows) in
      let r = get_or rows b.block [] in
      let front : take f.number (texts_in bs) ≡ points_in (a ++ take f.index r) = ap (λ n. take n (texts_in bs)) (sym number) ∙ front-of bs b s f.index (omega (arith, inside)) in
      let size = ap (λ q. length (get_or rows q [])) block in
      let before = ap (λ q. length (joined (take q rows))) block in
      record {
        block = omega (arith, block, s.within);
        inside = omega (arith, size, inside);
        number = omega (arith, before, s.paragraphs, length-points a, number);
        bytes = bytes ∙ ap (λ n. n + bytes_in (concat (points_in (take f.index r)))) s.bytes ∙ sym (ap (λ t. bytes_in (concat t)) front ∙ bytes-both a (take f.index r));
        places = places ∙ ap (λ n. n + length (concat (points_in (take f.index r)))) s.places ∙ sym (ap (λ t. length (concat t)) front ∙ places-both a (take f.index r));
      }
