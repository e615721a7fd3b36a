-- What a buffer knows of its blocks, and where it is among them.
use Rattle.std.specs.Prelude.{◌≡◌, ◌<◌, ◌≤◌, ℕ, List, length}
use Rattle.std.specs.List.{concat}
use Rattle.text_buffer.specs.declared.block.Block.{Block}
use Rattle.text_buffer.specs.declared.find.Before.{Before}
use Rattle.text_buffer.specs.Buffers.{bytes_in, Fits}
use Rattle.text_buffer.specs.Blocks.{texts_in}
use Rattle.text_buffer.specs.Places.{IsInFront}

pub record IsCounted {K : Type 0} (blocks : List (Block K)) (bytes places paragraphs : ℕ) (near : Before) : Type 0 where
  pub some : 0 < paragraphs
  pub bytes_is : bytes ≡ bytes_in (concat (texts_in blocks))
  pub places_is : places ≡ length (concat (texts_in blocks))
  pub paragraphs_is : paragraphs ≡ length (texts_in blocks)
  pub few : bytes ≤ 4_000_000
  pub fits : Fits (texts_in blocks)
  pub near_is : IsInFront blocks near
