-- The modules of this crate's proofs.
pub mod Parting
pub mod Numerals
pub mod Leading
pub mod Padding
pub mod FirstFault
pub mod ReadLines
pub mod Listings
pub mod Outcomes
pub mod ListedAgain
pub mod PlainLines
