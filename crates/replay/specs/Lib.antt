-- The definitions of this crate.
pub mod Plays
pub mod Whole
pub mod Views
pub mod Texts
