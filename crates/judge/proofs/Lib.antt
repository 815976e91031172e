-- Laws of the judge: what acceptance means, document 01's table, and that there is one answer.
pub mod Passes
pub mod Weighing
pub mod Sides
pub mod Theorem
pub mod Table
pub mod Example
pub mod Unique
