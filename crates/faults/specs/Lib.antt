-- The definitions of this crate.
pub mod Numbers
pub mod Checks
pub mod Bays
pub mod Texts
