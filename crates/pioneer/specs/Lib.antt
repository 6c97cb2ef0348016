-- The definitions of this crate.
pub mod Runs
pub mod Decoding
pub mod Found
pub mod Ones
pub mod Packed
pub mod Opening
pub mod Filling
pub mod Written
pub mod Refilling
