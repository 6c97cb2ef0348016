-- The definitions of this crate.
pub mod Blocks
pub mod Lawful
pub mod Decoding
pub mod Told
pub mod Opening
pub mod Meant
pub mod Filling
pub mod Measures
pub mod Writing
pub mod Looking
pub mod Unpacking
pub mod Passing
pub mod Refilling
