pub mod Bits
pub mod Levels
pub mod Plans
pub mod Holding
pub mod Growing
pub mod Turns
pub mod Steps
pub mod Rules
