pub mod Links
pub mod Planned
pub mod Raising
