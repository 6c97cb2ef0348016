-- The definitions of this crate.
pub mod Decoding
pub mod Opening
pub mod Filling
pub mod Refilling
