-- The definitions of this crate.
pub mod Places
pub mod Parting
pub mod Decoding
pub mod Lawful
pub mod Opening
pub mod Filling
pub mod Words
pub mod Refilling
