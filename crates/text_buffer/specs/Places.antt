-- How much stands in the blocks before one, and before a place.
use Rattle.std.specs.Prelude.{◌≡◌, ◌+◌, ◌<◌, ◌≤◌, ◌++◌, ℕ, List, [], length, take, get_or}
use Rattle.std.specs.List.{concat}
use Rattle.std.specs.Str.{IsUtf8}
use Rattle.paragraphs.specs.Text.{code_points}
use Rattle.text_buffer.specs.declared.block.Block.{Block}
use Rattle.text_buffer.specs.declared.find.Before.{Before}
use Rattle.text_buffer.specs.declared.find.Spot.{Spot}
use Rattle.text_buffer.specs.declared.found.Found.{Found}
use Rattle.text_buffer.specs.Buffers.{bytes_in, Fits}
use Rattle.text_buffer.specs.Pieces.{points_in}
use Rattle.text_buffer.specs.Blocks.{rows_of, joined, texts_in}

pub record IsInFront {K : Type 0} (blocks : List (Block K)) (b : Before) : Type 0 where
  pub within : b.block < length blocks
  pub paragraphs : b.paragraphs ≡ length (points_in (joined (take b.block (rows_of blocks))))
  pub bytes : b.bytes ≡ bytes_in (concat (points_in (joined (take b.block (rows_of blocks)))))
  pub places : b.places ≡ length (concat (points_in (joined (take b.block (rows_of blocks)))))

-- a paragraph stands in this block
pub record IsBlockOf {K : Type 0} (blocks : List (Block K)) (b : Before) (number : ℕ) : Type 0 where
  pub stands : IsInFront blocks b
  pub reached : b.paragraphs ≤ number
  pub here : number < b.paragraphs + length (get_or (rows_of blocks) b.block [])

-- a place stands in a paragraph, behind so many of its code points; one between two paragraphs stands in the later one
pub record StandsAt (paragraphs : List (List ℕ)) (place : ℕ) (s : Spot) : Type 0 where
  pub there : s.number < length paragraphs
  pub bytes : s.bytes ≡ bytes_in (concat (take s.number paragraphs))
  pub place_is : length (concat (take s.number paragraphs)) + s.offset ≡ place
  pub within : s.offset ≤ length (get_or paragraphs s.number [])
  pub inside : s.number + 1 < length paragraphs → s.offset < length (get_or paragraphs s.number [])

-- a place stands behind so many bytes of the text, and between these two parts of a paragraph
pub record IsParted (paragraphs : List (List ℕ)) (at number before : ℕ) (low high : List ℕ) : Type 0 where
  pub there : number < length paragraphs
  pub front : IsUtf8 low
  pub back : IsUtf8 high
  pub own : code_points low ++ code_points high ≡ get_or paragraphs number []
  pub place : length (concat (take number paragraphs)) + length (code_points low) ≡ at
  pub bytes : before ≡ bytes_in (take at (concat paragraphs))
  pub more : number + 1 < length paragraphs → 0 < length (code_points high)

-- a paragraph stands at its number in its block, and at its number among all, behind so many bytes and code points
pub record IsFound {K : Type 0} (blocks : List (Block K)) (f : Found) : Type 0 where
  pub block : f.block < length blocks
  pub inside : f.index < length (get_or (rows_of blocks) f.block [])
  pub number : f.number ≡ length (joined (take f.block (rows_of blocks))) + f.index
  pub bytes : f.bytes ≡ bytes_in (concat (take f.number (texts_in blocks)))
  pub places : f.places ≡ length (concat (take f.number (texts_in blocks)))

-- it was found in blocks that are not too many to go on
pub record IsStanding {K : Type 0} (blocks : List (Block K)) (f : Found) : Type 0 where
  pub found : IsFound blocks f
  pub fits : Fits (texts_in blocks)
