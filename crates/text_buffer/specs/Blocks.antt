-- The paragraphs that stand in blocks.
use Rattle.std.specs.Prelude.{ℕ, List, map as each}
use Rattle.std.specs.List.{flat_map}
use Rattle.text_buffer.specs.Buffers.{KeptParagraph}
use Rattle.text_buffer.specs.Pieces.{points_in, seen}
use Rattle.text_buffer.specs.declared.piece.Piece.{Piece}
use Rattle.text_buffer.specs.declared.block.Block.{Block}

-- rows, one behind the other
abbrev pub joined : {A : Type 0} → List (List A) → List A
joined rows = flat_map (λ r. r) rows

module _ {K : Type 0} where
  -- the paragraphs of each block
  abbrev pub rows_of : List (Block K) → List (List (Piece K))
  rows_of bs = each (λ b. b.pieces.items) bs

  -- those of all blocks, in order
  abbrev pub pieces_in : List (Block K) → List (Piece K)
  pieces_in bs = joined (rows_of bs)

  -- the code points of each
  abbrev pub texts_in : List (Block K) → List (List ℕ)
  texts_in bs = points_in (pieces_in bs)

  -- what a buffer with these blocks is seen as
  abbrev pub seen_in : List (Block K) → List (KeptParagraph K)
  seen_in bs = each seen (pieces_in bs)
