-- The lemmas of this crate.
pub mod Tests
pub mod Bays
pub mod Lawful
pub mod Joins
pub mod Memory
pub mod Ranks
pub mod Same
pub mod Only
pub mod Sharing
pub mod Made
pub mod Packing
