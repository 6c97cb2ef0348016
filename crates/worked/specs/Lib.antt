-- The definitions of this crate.
pub mod Garage
pub mod Cases
