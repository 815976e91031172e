-- Every sound trace has an accepted plan, over the bytes.
pub mod Accepted
pub mod Example
