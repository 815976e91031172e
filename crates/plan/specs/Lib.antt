-- Plan files: definitions that a reader has to believe.
pub mod PlanFile
pub mod Reading
