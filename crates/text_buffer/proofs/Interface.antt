-- What the proofs of crates above may import from this crate's proofs, and nothing else.
pub use Rattle.text_buffer.proofs.Runs.{changed-all}
