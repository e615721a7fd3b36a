-- What this crate's proofs take from the laws of the crates below, in the words of those laws.
use Rattle.std.specs.Prelude.{◌≡◌, ℕ, ◌<◌, ◌≤◌, true, List, [], ◌∷◌, map, length, slice_range, IsPermutation}
use Rattle.std.specs.List.{All, concat, range_with_len}
use Rattle.std.specs.Str.{IsUtf8}
use Rattle.unicode_tables.specs.Tables.{TableValues}
use Rattle.paragraphs.specs.Clusters.{clusters, cluster_sizes}
use Rattle.paragraphs.specs.Paragraphs.{Paragraph, paragraphs, StandsIn, ParagraphsFollow}
use Rattle.line_break.specs.declared.line.Line.{Line}
use Rattle.line_break.specs.LineClusters.{line_clusters}
use Rattle.line_break.specs.Lines.{fits, lines}
use Rattle.line_break.specs.Ranges.{Follow}
use Rattle.reorder.specs.Pieces.{PiecesMoveAsOne}
use Rattle.reorder.specs.VisualList.{visual_list}

pub record LawsBelow : Type 0 where
  -- clusters, as `paragraphs` promises of them
  pub clusters_join : (text : List ℕ) → IsUtf8 text → concat (clusters text) ≡ text
  pub clusters_utf8 : (text : List ℕ) → IsUtf8 text → All IsUtf8 (clusters text)
  pub clusters_some : (text : List ℕ) → All (λ (cluster : List ℕ). 0 < length cluster) (clusters text)
  pub sizes_some : (text : List ℕ) → IsUtf8 text → All (λ (size : ℕ). 0 < size) (cluster_sizes text)
  -- and paragraphs
  pub paragraphs_join : (tables : TableValues) (text : List ℕ) → IsUtf8 text → concat (map (λ (p : Paragraph). p.text) (paragraphs tables text)) ≡ text
  pub paragraphs_some : (tables : TableValues) (text : List ℕ) → 0 < length (paragraphs tables text)
  pub paragraphs_stand : (tables : TableValues) (text : List ℕ) → IsUtf8 text → All (StandsIn text) (paragraphs tables text)
  pub paragraphs_follow : (tables : TableValues) (text : List ℕ) → IsUtf8 text → ParagraphsFollow 0 0 (paragraphs tables text)
  -- lines, as `line_break` does
  pub each_measured : (tables : TableValues) (text : List ℕ) → length (line_clusters tables text) ≡ length (clusters text)
  pub empty_line : (tables : TableValues) (text : List ℕ) (width : ℕ) → length (clusters text) ≡ 0 → lines tables text width ≡ record { start = 0; end = 0 } ∷ []
  pub lines_follow : (tables : TableValues) (text : List ℕ) (width : ℕ) → 0 < length (clusters text) → Follow 0 (lines tables text width) (length (clusters text))
  pub lines_fit : (tables : TableValues) (text : List ℕ) (width : ℕ) → 2 ≤ width
      → All (λ (line : Line). fits width (slice_range (line_clusters tables text) line.start line.end) ≡ true) (lines tables text width)
  -- the visual order, as `reorder` does
  pub rearrangement : (levels : List ℕ) → IsPermutation (range_with_len 0 (length levels)) (visual_list levels)
  pub pieces_move_as_one : PiecesMoveAsOne
