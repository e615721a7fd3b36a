-- The modules of this crate's proofs.
pub mod Codes
pub mod FirstFault
pub mod LineFields
pub mod LinesOf
pub mod Named
pub mod Places
pub mod TablesOf
pub mod Writes
