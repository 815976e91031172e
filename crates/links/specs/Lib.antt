-- The definitions that the contracts of `links` cite.
pub mod Linked
pub mod Promise
pub mod Chains
