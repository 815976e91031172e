-- Laws of the digits of a float.
pub mod Division
pub mod Scale
pub mod Patterns
pub mod Value
pub mod Ratio
pub mod Cases
