pub mod Powers
pub mod Steps
