-- The definitions of this crate.
pub mod Choices
pub mod Verdicts
pub mod Telling
pub mod Cutting
pub mod Laying
pub mod Opening
pub mod Meant
pub mod Sources
pub mod Stepping
pub mod Texts
