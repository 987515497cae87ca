pub mod Columns
pub mod Lines
pub mod Sheets
pub mod Reading
pub mod Places
