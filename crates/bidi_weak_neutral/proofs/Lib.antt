-- The modules of this crate's proofs.
pub mod Scan
pub mod WeakScans
pub mod WeakPass
pub mod Stretches
pub mod Letters
pub mod Runs
pub mod NeutralScans
pub mod Filling
pub mod PuttingBack
pub mod RunPlaces
pub mod AllLevels
pub mod Bounds
pub mod UniformLevels
pub mod Rows
pub mod PlainRules
pub mod PlainParagraph
pub mod Interface
