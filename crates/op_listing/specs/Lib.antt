-- The modules of this crate's definitions.
pub mod Words
pub mod Number
pub mod FirstFault
pub mod Listing
pub mod Line
pub mod Listed
pub mod Field
pub mod Plain
pub mod Code
pub mod Outcome
