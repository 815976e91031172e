-- Files: what can be promised of a load, and the name of a part file.
pub mod Load
pub mod Part
