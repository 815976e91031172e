-- The gap ratio: definitions that a reader has to believe.
pub mod Ratio
