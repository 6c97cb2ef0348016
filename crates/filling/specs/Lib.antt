-- The definitions of this crate.
pub mod Rooms
pub mod Layouts
pub mod Chains
