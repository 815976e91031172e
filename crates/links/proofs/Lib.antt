-- Laws of the links.
pub mod Readings
pub mod Chains
pub mod Turns
pub mod Fills
pub mod Answered
