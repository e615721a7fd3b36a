-- The modules of this crate's definitions.
pub mod Counted
pub mod Agreement
pub mod Pairs
pub mod Came
pub mod Choices
