-- The modules of this crate's definitions.
pub mod Changes
pub mod Documents
pub mod Numbers
pub mod Rows
