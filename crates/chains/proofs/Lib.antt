-- The lemmas of this crate.
pub mod Chained
pub mod Sizes
pub mod Within
pub mod Judged
pub mod Laws
pub mod Sides
pub mod Opened
pub mod Steps
pub mod Refilled
pub mod Accepted
