-- The laws of the audit.
pub mod Parts
pub mod Answered
pub mod Laws
pub mod Example
