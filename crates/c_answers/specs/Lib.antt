-- The modules of this crate's definitions.
pub mod Copying
pub mod Numbers
