-- The definitions that the contracts of `ways` cite.
pub mod Ways
pub mod Promise
pub mod Parts
pub mod Turns
