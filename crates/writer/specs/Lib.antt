-- Writing plans: definitions that a reader has to believe and what the call promises.
pub mod Write
pub mod Promise
