-- The definitions of this crate.
pub mod Records
pub mod Batches
pub mod Questions
pub mod Pairs
