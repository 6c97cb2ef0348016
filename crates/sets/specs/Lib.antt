-- The definitions of this crate.
pub mod Search
pub mod Lists
pub mod Sets
pub mod Made
pub mod Packing
pub mod Laws
