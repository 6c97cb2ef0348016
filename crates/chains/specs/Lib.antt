-- The definitions of this crate.
pub mod Judging
pub mod Laid
pub mod Sources
pub mod Steps
pub mod Texts
