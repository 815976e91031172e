-- The laws of the model.
pub mod Sums
pub mod Sets
pub mod Least
pub mod Duality
pub mod Plans
pub mod Links
pub mod Rows
pub mod Refusals
pub mod Bounds
pub mod Unique
pub mod Sanity
pub mod Stretch
