-- The lemmas of this crate.
pub mod Whole
pub mod Answered
pub mod Written
