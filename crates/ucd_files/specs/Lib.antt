-- The modules of this crate's definitions.
pub mod FaultCode
pub mod Line
pub mod Code
pub mod Entry
pub mod Reading
pub mod Passes
pub mod Fields
pub mod Names
pub mod BidiNames
pub mod LbNames
pub mod EaNames
pub mod BracketKind
pub mod Files
pub mod Faults
pub mod Ucd
pub use Rattle.unicode_tables.specs.Tables
