-- The modules of this crate's proofs.
pub mod Tables
pub mod Views
pub mod Walks
pub mod Holding
pub mod Freeing
pub mod HandingOut
pub mod Listing
pub mod Counting
pub mod OneStep
pub mod Placed
pub mod Loop
pub mod Interface
