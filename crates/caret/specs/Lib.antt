-- The modules of this crate's definitions.
pub mod Lists
pub mod Gaps
pub mod Moves
pub mod Places
pub mod Positions
pub mod Laws
