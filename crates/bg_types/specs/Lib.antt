-- The modules of this crate's definitions.
pub mod Identifier
pub mod WellFormed
pub mod Numbers
pub mod OperationSet
pub mod Sink
pub mod Classes
pub mod Hashing
pub mod Edit
