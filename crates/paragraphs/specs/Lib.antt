-- The modules of this crate's definitions.
pub mod Text
pub mod Classes
pub mod Paragraphs
pub mod Separators
pub mod Clusters
pub mod Marked
pub mod Spans
pub mod Columns
