-- Files: what a caller learns of a load, and the name of a part file.
pub mod Loads
