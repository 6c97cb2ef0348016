-- The lemmas of this crate.
pub mod Numerals
pub mod NumberLists
pub mod NumberWords
pub mod NumberTexts
pub mod ByteTexts
pub mod LetterCases
pub mod LeadingZeros
pub mod Wording
