-- The modules of this crate's definitions.
pub mod Pairs
pub mod N0
pub mod Found
pub mod Runs
pub mod Examples
