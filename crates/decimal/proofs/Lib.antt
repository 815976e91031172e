-- Laws of decimal digits; the loops that write and read them.
pub mod Laws
pub mod Spelling
pub mod Reading
