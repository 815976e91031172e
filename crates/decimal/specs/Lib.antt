-- Numbers in decimal digits, and what the calls answer.
pub mod Decimal
pub mod Said
