-- The modules of this crate's definitions.
pub mod Typed
pub mod Parents
pub mod Stretches
pub mod Changed
pub mod Blocks
pub mod BlockRows
pub mod Bounds
pub mod Sums
pub mod Keyed
pub mod Leaves
pub mod KeyRows
pub mod Indexed
pub mod Filled
pub mod Whole
pub mod Counters
