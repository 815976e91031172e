-- The judge: definitions that a reader has to believe, and document 01's table.
pub mod Judge
pub mod Table
