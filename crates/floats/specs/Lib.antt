-- The decimal digits of a float: definitions that a reader has to believe.
pub mod Cut
