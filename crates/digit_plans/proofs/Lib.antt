pub mod Counting
pub mod Doubling
pub mod DigitPlans
pub mod DigitLoop
pub mod DigitRule
