-- The modules of this crate's definitions.
pub mod Keeping
pub mod Showing
pub mod Reading
pub mod Documents
pub mod Cost
pub mod Runs
pub mod LawsBelow
pub mod Carrying
