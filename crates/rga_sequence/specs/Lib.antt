-- The modules of this crate's definitions.
pub mod Blocks
pub mod BlockRows
pub mod Bounds
pub mod Sums
pub mod Grouped
pub mod Indexed
pub mod Few
