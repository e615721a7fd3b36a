-- The modules of this crate's proofs.
pub mod Spelled
pub mod LowerLaws
pub mod Flaws
pub mod Feeding
pub mod HandedOn
pub mod Readings
pub mod Taking
pub mod AnyOrder
pub mod InOrder
pub mod Answered
pub mod OneCause
pub mod Decided
pub mod TextDecided
pub mod TextSize
pub mod ReadSteps
pub mod Interface
