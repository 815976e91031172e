-- Replay: definitions that a reader has to believe, and what its steps look at.
pub mod Replay
pub mod Rows
pub mod Linked
