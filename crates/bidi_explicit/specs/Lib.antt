-- The modules of this crate's definitions.
pub mod Nesting
pub mod Levels
pub mod Sequences
pub mod LevelRuns
pub mod Extents
pub mod Uniform
pub mod Embedding
pub mod Flat
pub mod Strong
pub mod Controls
pub mod Links
pub mod Ladder
pub mod Frames
pub mod Laws
