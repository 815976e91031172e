-- Laws of numbers in bytes.
pub mod Numbers
pub mod Bytes
