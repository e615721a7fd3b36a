-- The modules of this crate's definitions.
pub mod Tables
pub mod Classes
pub mod Alone
pub mod Blocks
pub mod Word
pub mod Evenness
pub mod FirstBytes
pub mod Words
