-- The modules of this crate's definitions.
pub mod Buffers
pub mod Edits
pub mod Codes
pub mod Pieces
pub mod Blocks
pub mod Counted
pub mod Places
pub mod Stretches
pub mod Forgetting
pub mod Runs
