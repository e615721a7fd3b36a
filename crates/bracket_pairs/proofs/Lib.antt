-- The modules of this crate's proofs.
pub mod Places
pub mod SearchSteps
pub mod SearchEnd
pub mod SetBracket
pub mod PairSteps
pub mod Remembered
