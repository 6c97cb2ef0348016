-- The definitions that the contracts cite.
pub mod Words
pub mod Numbers
pub mod Parts
