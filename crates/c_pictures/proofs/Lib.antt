-- The modules of this crate's proofs.
pub mod Sized
pub mod Sizes
pub mod Interface
