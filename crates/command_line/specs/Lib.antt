-- The modules of this crate's definitions.
pub mod Data
pub mod Ending
pub mod Given
