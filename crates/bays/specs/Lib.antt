-- The definitions of this crate.
pub mod Named
pub mod Telling
pub mod Refusing
pub mod Answers
