-- The modules of this crate's definitions.
pub mod Classes
pub mod Context
pub mod Weak
pub mod Pass
pub mod Neutral
pub mod Levels
pub mod Uniform
