-- The modules of this crate's definitions.
pub mod VisualList
pub mod VisualOrder
pub mod Pieces
pub mod Links
pub mod LineLevels
pub mod Mirrored
