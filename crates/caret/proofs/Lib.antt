-- The modules of this crate's proofs.
pub mod RowOrder
pub mod CaretAt
pub mod Steps
pub mod CaretRows
pub mod Finding
pub mod Gone
pub mod PlaceLaw
pub mod Neighbours
pub mod Positions
pub mod Interface
