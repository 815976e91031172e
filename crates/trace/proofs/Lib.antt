-- Laws of trace files.
pub mod Places
pub mod Records
pub mod Sound
pub mod ReadBack
pub mod Example
