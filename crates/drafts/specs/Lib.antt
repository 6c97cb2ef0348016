-- The definitions of this crate.
pub mod Refusing
pub mod Drafts
pub mod Storing
pub mod Texts
