pub mod Needed
pub mod Trim
