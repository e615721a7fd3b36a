-- The modules of this crate's definitions.
pub mod Cause
pub mod Desks
pub mod Steps
pub mod Shows
pub mod Round
pub mod Printed
pub mod ReplayOutcome
pub mod Setting
pub mod Room
pub mod Carets
pub mod WalkCause
pub mod CaretsOutcome
pub mod Fault
pub mod Changing
pub mod TypedOutcome
pub mod SameFiles
