-- Laws of the C interface: no code wraps, and a code tells its refusal.
pub mod Mapped
pub mod Small
pub mod Solved
