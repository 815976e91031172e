-- Trace files: definitions that a reader has to believe, and what the calls answer.
pub mod TraceFile
pub mod Answers
