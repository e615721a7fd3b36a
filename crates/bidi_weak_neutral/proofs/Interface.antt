-- What proofs of other crates may use of this one's lemmas.
pub use Rattle.bidi_weak_neutral.proofs.AllLevels.{length-resolved_levels}
