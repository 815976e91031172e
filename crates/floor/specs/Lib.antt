-- The floor and its two sides: definitions that a reader has to believe, and what the pass over the requests goes by.
pub mod Floor
pub mod Sides
pub mod Pass
