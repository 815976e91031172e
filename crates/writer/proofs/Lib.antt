-- Laws of writing plans.
pub mod Laying
pub mod Answered
pub mod Laws
pub mod Worked
