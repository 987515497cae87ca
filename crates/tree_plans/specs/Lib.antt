pub mod Growing
pub mod Method
