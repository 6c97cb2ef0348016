-- The lemmas of this crate.
pub mod Turns
pub mod Shifts
pub mod Levels
pub mod Packed
