-- The modules of this crate's definitions.
pub mod Fault
pub mod Reading
pub mod Readers
pub mod Files
pub mod Taking
pub mod OneOutcome
pub mod Schedule
pub mod Cause
pub mod Written
pub mod TextOutcome
