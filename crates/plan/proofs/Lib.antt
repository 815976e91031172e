-- Laws of plan files.
pub mod Sound
pub mod Written
pub mod Standing
pub mod Sections
pub mod Reading
pub mod Worked
