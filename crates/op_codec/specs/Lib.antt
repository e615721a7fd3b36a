-- The modules of this crate's definitions.
pub mod Code
pub mod Spelling
pub mod Frames
pub mod Gathering
pub mod Migration
pub mod Fault
pub mod Feed
pub mod Source
pub mod Gives
