-- What the pieces of a trace file hold.
pub mod Records
