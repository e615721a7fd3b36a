-- The modules of this crate's proofs.
pub mod BlockValues
pub mod Bytes
pub mod CodePoints
pub mod Fills
pub mod FirstBytes
pub mod Interface
pub mod Pages
pub mod Properties
pub mod Ranges
pub mod Stepping
pub mod Marks
