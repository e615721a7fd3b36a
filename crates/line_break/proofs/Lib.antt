-- The modules of this crate's proofs.
pub mod Contexts
pub mod Reduced
pub mod PairTable
pub mod Columns
pub mod Marking
pub mod Tails
pub mod Greatest
pub mod LineEnds
pub mod LinesLeft
pub mod Boundaries
pub mod Listing
pub mod Breaking
pub mod Joining
pub mod Measuring
pub mod Spaces
pub mod Outlining
pub mod Joined
pub mod Gathering
pub mod Offering
pub mod LastStatus
pub mod PlainPlaces
pub mod Reaching
pub mod Following
pub mod Fitting
mod Counting
mod Reading
