pub mod Divisors
pub mod Factors
pub mod Scaled
