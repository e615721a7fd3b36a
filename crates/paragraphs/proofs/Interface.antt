-- What the proofs of crates above may import from this crate's proofs, and nothing else.
pub use Rattle.paragraphs.proofs.Gathered.{past_char-shorter, points-fit}
pub use Rattle.paragraphs.proofs.OneCodePoint.{nil-from-test}
pub use Rattle.paragraphs.proofs.Parts.{parts, front, front-is, parts-some, concat-parts}
pub use Rattle.paragraphs.proofs.Halved.{IsHalved, IsHalved-from, parts-put, parts-put_last, concat-append, meets-front, meets-last}
pub use Rattle.paragraphs.proofs.Records.{points-encodes, points-parts, paragraph_points-parts, paragraph-at}
