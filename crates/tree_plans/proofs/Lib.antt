pub mod Climbing
pub mod Planned
