-- The laws of the rows.
pub mod Free
pub mod Charts
pub mod Drawing
pub mod Laws
pub mod Example
