-- The lemmas of this crate.
pub mod Digits
pub mod Lowest
pub mod Held
pub mod Sorts
pub mod Bytes
pub mod Checked
pub mod Values
pub mod Packing
pub mod Fronts
pub mod Rows
pub mod Moved
pub mod Adding
pub mod Runs
pub mod Laid
pub mod Changed
