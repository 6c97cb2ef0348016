-- The lemmas of this crate.
pub mod Rooms
pub mod Cuts
pub mod Laid
pub mod Keeping
pub mod Stepped
