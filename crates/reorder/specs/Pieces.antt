-- The visual order of pieces: clusters of one level that follow each other move as one.
use Rattle.std.specs.Prelude.{◌≡◌, ℕ, ◌<◌, List, map, reverse, replicate, take, sum_by, slice_index_or, if◌then◌else◌}
use Rattle.std.specs.List.{All, flat_map, range_with_len}
use Rattle.reorder.specs.VisualList.{is_odd, visual_list}

-- clusters of one level that follow each other: how many, and their level
pub record LevelPiece : Type 0 where
  pub count : ℕ
  pub level : ℕ

abbrev pub no_piece : LevelPiece
no_piece = record { count = 0; level = 0 }

-- how many clusters these pieces have
abbrev pub count_of : List LevelPiece → ℕ
count_of pieces = sum_by (λ (p : LevelPiece). p.count) pieces

-- the level of each cluster of these pieces
abbrev pub levels_of : List LevelPiece → List ℕ
levels_of pieces = flat_map (λ (p : LevelPiece). replicate p.count p.level) pieces

-- the numbers of a piece's clusters from left to right: rising at an even level, falling at an odd one
abbrev pub piece_order : List LevelPiece → ℕ → List ℕ
piece_order pieces k =
    let piece = slice_index_or pieces k no_piece in
    let rising = range_with_len (count_of (take k pieces)) piece.count in
    if is_odd piece.level then reverse rising else rising

-- the clusters of pieces that all have some stand piece by piece, in the order of the pieces by their own levels
abbrev pub PiecesMoveAsOne : Type 0
PiecesMoveAsOne =
    (pieces : List LevelPiece) → All (λ (p : LevelPiece). 0 < p.count) pieces →
    visual_list (levels_of pieces) ≡ flat_map (piece_order pieces) (visual_list (map (λ (p : LevelPiece). p.level) pieces))
