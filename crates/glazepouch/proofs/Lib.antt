-- Laws of what `glazepouch` prints.
pub mod Telling
