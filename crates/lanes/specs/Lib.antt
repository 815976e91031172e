-- Slot rows of a chart: definitions that a reader has to believe, and what the call promises.
pub mod Lanes
pub mod Steps
