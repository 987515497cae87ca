pub mod Powers
pub mod Filling
pub mod Growing
pub mod Pushing
pub mod Finishing
pub mod Writing
