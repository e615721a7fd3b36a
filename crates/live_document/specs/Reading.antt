-- Rows are read one after the other, by a cursor over their paragraphs.
use Rattle.std.specs.Prelude.{◌+◌, ◌≤◌, ℕ, length, encode_utf8_all}
use Rattle.std.specs.Str.{IsUtf8}
use Rattle.bg_types.specs.declared.class.Base.{Base}
use Rattle.unicode_tables.specs.Tables.{TableValues}
use Rattle.text_buffer.specs.Buffers.{Standing, bytes_in, text_in}
use Rattle.live_document.specs.Keeping.{Rows, IsKeptAt}
use Rattle.live_document.specs.Showing.{rows_from}

-- rows are read behind so many of those from a cursor's paragraph on, and so many of them are left
pub record IsReading (c : Standing Rows) (row left : ℕ) : Type 0 where
  pub tables : TableValues
  pub width : ℕ
  pub base : Base
  pub kept_at : IsKeptAt tables width base c.paragraphs
  pub enough : row + left ≤ length (rows_from c.paragraphs c.number)
  pub few : bytes_in (text_in c.paragraphs) ≤ 4_000_000
  pub utf8 : IsUtf8 (encode_utf8_all (text_in c.paragraphs))
