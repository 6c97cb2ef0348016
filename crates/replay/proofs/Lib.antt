-- The lemmas of this crate.
pub mod Turning
pub mod Playing
pub mod Standing
