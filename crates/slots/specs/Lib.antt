-- The definitions of this crate.
pub mod Asked
pub mod Held
pub mod Changes
