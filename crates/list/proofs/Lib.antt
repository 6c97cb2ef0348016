-- The lemmas of this crate.
pub mod Lawful
pub mod Members
pub mod Places
pub mod Ends
pub mod Put
pub mod Taken
pub mod Parted
pub mod Asked
pub mod Selected
pub mod Apart
pub mod Holding
pub mod Walked
pub mod Listed
pub mod Opened
pub mod Written
