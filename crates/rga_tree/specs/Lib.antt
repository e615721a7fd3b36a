-- The modules of this crate's definitions.
pub mod Walk
pub mod Attached
pub mod TextOf
pub mod Tree
pub mod AllWellFormed
pub mod Elements
pub mod Row
pub mod Spot
pub mod KeepsWalk
pub mod Examples
pub mod Leaf
pub mod Parts
pub mod Order
pub mod Stretch
pub mod Run
