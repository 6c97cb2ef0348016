-- The definitions of this crate.
pub mod Strides
pub mod Passage
