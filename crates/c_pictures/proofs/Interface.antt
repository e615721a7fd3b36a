-- What the proofs of crates above may import from this crate's proofs, and nothing else.
pub use Rattle.c_pictures.proofs.Sized.{printed_nowhere}
pub use Rattle.c_pictures.proofs.Sizes.{sizes_counted}
