-- Laws of the floor.
pub mod Backward
pub mod Lists
pub mod Passed
pub mod Answers
