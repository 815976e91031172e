-- The definitions that the contracts of `sentences` cite.
pub mod Spelled
pub mod Sentences
pub mod Signed
