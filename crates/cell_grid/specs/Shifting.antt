-- What may be shifted, so that no number passes the greatest length of a text.
use Rattle.std.specs.Prelude.{ℕ, ◌+◌, ◌^◌, ◌<◌, ◌≤◌}
use Rattle.std.specs.List.{All}
use Rattle.paragraphs.specs.Paragraphs.{Paragraph}
use Rattle.paragraphs.specs.declared.span.Span.{Span}
use Rattle.cell_grid.specs.declared.entry.Entry.{Entry}
use Rattle.cell_grid.specs.Rows.{DrawnRow}

-- moved this far, a span still has numbers of 32 bits
pub record StaysInReach (bytes places : ℕ) (s : Span) : Type 0 where
  pub first_byte : s.first_byte + bytes < 2 ^ 32
  pub end_byte : s.end_byte + bytes < 2 ^ 32
  pub first_place : s.first_place + places < 2 ^ 32
  pub end_place : s.end_place + places < 2 ^ 32

pub record MayShift (bytes places : ℕ) (s : Span) : Type 0 where
  pub first_byte : s.first_byte + bytes ≤ 4_000_000
  pub end_byte : s.end_byte + bytes ≤ 4_000_000
  pub first_place : s.first_place + places ≤ 4_000_000
  pub end_place : s.end_place + places ≤ 4_000_000

pub record MayShiftRow (bytes places : ℕ) (r : DrawnRow) : Type 0 where
  pub first_place : r.first_place + places ≤ 4_000_000
  pub last_place : r.last_place + places ≤ 4_000_000
  pub entries : All (λ (e : Entry). MayShift bytes places e.span) r.entries

-- a paragraph that stands this many bytes and places later
abbrev pub shifted_paragraph : (bytes places : ℕ) → Paragraph → Paragraph
shifted_paragraph bytes places p = record p { first_byte = p.first_byte + bytes; first_place = p.first_place + places }
