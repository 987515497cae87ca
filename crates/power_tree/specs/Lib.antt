pub mod Tree
pub mod Growth
pub mod Rule
