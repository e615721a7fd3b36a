-- The modules of this crate's definitions.
pub mod Waiting
pub mod Below
pub mod Releasing
pub mod Code
pub mod Chains
