-- What the proofs of crates above may import from this crate's proofs, and nothing else.
pub use Rattle.unicode_tables.proofs.CodePoints.{each_below-at, each_below-same}
