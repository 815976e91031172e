-- The audit: definitions that a reader has to believe.
pub mod Audit
