-- Laws of the gap ratio.
pub mod Laws
