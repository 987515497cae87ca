pub mod Tables
pub mod Polynomials
