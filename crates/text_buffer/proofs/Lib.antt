-- The modules of this crate's proofs.
pub mod Sums
pub mod Joins
pub mod Texts
pub mod Splits
pub mod Places
pub mod Begun
pub mod Chars
pub mod Edits
pub mod Counted
pub mod Spots
pub mod Made
pub mod Whole
pub mod Forgets
pub mod Founds
pub mod Weights
pub mod Runs
pub mod Interface
