-- The modules of this crate's proofs.
pub mod Erased
pub mod Keystrokes
pub mod Messages
pub mod Texts
pub mod Interface
