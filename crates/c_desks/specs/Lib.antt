-- The modules of this crate's definitions.
pub mod Desks
pub mod Faults
pub mod Keystrokes
pub mod Numbers
pub mod Rows
