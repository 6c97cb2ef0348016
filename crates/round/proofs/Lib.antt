-- The lemmas of this crate.
pub mod Walks
pub mod Greedy
pub mod Handing
pub mod Steps
pub mod Ways
pub mod Sheeting
pub mod Taking
pub mod Rounds
pub mod Asking
pub mod Bay
pub mod Striding
