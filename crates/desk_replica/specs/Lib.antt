-- The modules of this crate's definitions.
pub mod Codes
pub mod Reply
pub mod Desk
pub mod Placement
pub mod Standing
pub mod Typing
pub mod Replacement
pub mod Merging
pub mod Listed
pub mod Telling
pub mod Taking
pub mod Listening
pub mod SetOf
pub mod Refusal
pub mod DeskSets
pub mod WorldStep
pub mod WorldRun
