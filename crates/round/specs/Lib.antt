-- The definitions of this crate.
pub mod Standing
pub mod Machine
pub mod Stretches
pub mod Handed
pub mod Sheets
pub mod Strides
pub mod States
pub mod Rounds
pub mod Posts
pub mod Calls
pub mod Answers
pub mod Texts
