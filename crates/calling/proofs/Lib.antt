-- The modules of this crate's proofs.
pub mod Following
pub mod InTurn
pub mod Pointing
