-- What the proofs of crates above may import from this crate's proofs, and nothing else.
pub use Rattle.bidi_explicit.proofs.Chains.{kept_at-is, is_kept-within}
pub use Rattle.bidi_explicit.proofs.Facts.{length-explicit_places}
pub use Rattle.bidi_explicit.proofs.Runs.{All-left, All-right}
pub use Rattle.bidi_explicit.proofs.Uniformity.{embedding-uniform}
pub use Rattle.bidi_explicit.proofs.Whole.{sequences-within}
