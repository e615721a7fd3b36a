-- The modules of this crate's definitions.
pub mod Made
pub mod Mouse
pub mod Picture
pub mod Seen
