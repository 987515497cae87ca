pub mod Divisors
pub mod Factor
