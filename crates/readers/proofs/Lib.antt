-- The lemmas of this crate.
pub mod Through
pub mod Alike
