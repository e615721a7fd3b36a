-- The modules of this crate's proofs.
pub mod Edited
pub mod Found
pub mod FromNone
pub mod Reserved
