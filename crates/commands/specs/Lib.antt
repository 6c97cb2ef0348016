-- The definitions of this crate.
pub mod Reading
pub mod Kinds
pub mod Said
pub mod Sentences
pub mod Lines
pub mod Texts
pub mod Writing
pub mod Wanting
