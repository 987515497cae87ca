pub mod Products
pub mod Coefficients
pub mod Remainders
pub mod Windows
