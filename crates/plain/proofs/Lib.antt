-- The lemmas of this crate.
pub mod Copied
pub mod Shifted
pub mod Packed
pub mod Opened
