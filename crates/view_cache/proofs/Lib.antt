-- The modules of this crate's proofs.
pub mod Keys
pub mod Uses
pub mod Kept
pub mod Drawing
pub mod Edits
