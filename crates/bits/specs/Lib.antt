-- The definitions of this crate.
pub mod Bits
pub mod Checks
pub mod Words
pub mod Rows
pub mod Packing
