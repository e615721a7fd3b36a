-- The modules of this crate's proofs.
pub mod FlatLemmas
pub mod LadderLemmas
pub mod Strongest
pub mod Matching
pub mod Passed
pub mod Passing
pub mod Chains
pub mod Runs
pub mod Linking
pub mod Taken
pub mod Gathering
pub mod Walking
pub mod Facts
pub mod Uniformity
pub mod Whole
pub mod Balance
pub mod Interface
