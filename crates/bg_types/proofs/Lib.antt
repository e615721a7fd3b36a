-- The modules of this crate's proofs.
pub mod Bools
pub mod Edits
pub mod Entries
pub mod IdentifierOrder
pub mod NextCounter
pub mod OperationSets
pub mod PutAll
pub mod Interface
