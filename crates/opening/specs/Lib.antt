-- The definitions of this crate.
pub mod Places
pub mod Pairs
pub mod Texts
