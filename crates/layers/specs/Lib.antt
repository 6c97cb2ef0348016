-- The definitions of this crate.
pub mod Layers
pub mod Lifts
pub mod Levelling
