-- The laws of replay.
pub mod Linked
pub mod Steps
pub mod Counting
pub mod Table
pub mod Laws
pub mod Answered
