-- The lemmas of this crate.
pub mod Steps
pub mod Words
pub mod Written
pub mod Spoken
pub mod Sayings
pub mod Texted
pub mod Stops
pub mod Places
