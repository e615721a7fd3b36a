-- What the proofs of crates above may import from this crate's proofs, and nothing else.
pub use Rattle.caret.proofs.RowOrder.{rises-at, begins_by-at}
pub use Rattle.caret.proofs.Positions.{row_at-first}
