-- The definitions of this crate.
pub mod Claim
pub mod Refilled
pub mod Memories
