-- The modules of this crate's definitions.
pub mod Bases
pub mod Drawing
pub mod Files
pub mod Numbers
pub mod Rows
