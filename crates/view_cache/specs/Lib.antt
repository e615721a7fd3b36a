-- The modules of this crate's definitions.
pub mod Keys
pub mod Uses
pub mod KeptParagraphs
pub mod Drawings
pub mod Kept
pub mod Laws
