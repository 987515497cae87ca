pub mod Fitting
pub mod Sheets
pub mod Words
