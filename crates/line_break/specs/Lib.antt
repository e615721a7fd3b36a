-- The modules of this crate's definitions.
pub mod Classes
pub mod Items
pub mod Context
pub mod Rules
pub mod States
pub mod Statuses
pub mod LineClusters
pub mod Measures
pub mod Lines
pub mod Runs
pub mod Opportunities
pub mod Reached
pub mod Cursors
pub mod Open
pub mod Ranges
pub mod Marked
