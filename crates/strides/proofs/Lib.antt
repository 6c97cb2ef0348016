-- The lemmas of this crate.
pub mod Carried
pub mod Passing
pub mod Numbering
pub mod Joining
pub mod Going
