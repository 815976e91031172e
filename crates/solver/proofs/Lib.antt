-- The laws of the solver: the plan that the slots make (Planned), the rows of a solve (Solving), and what its promise permits (Promise).
pub mod Planned
pub mod Solving
pub mod Promise
