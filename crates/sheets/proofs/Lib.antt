pub mod Lines
pub mod Readings
pub mod Writes
pub mod Reread
pub mod Rewritten
