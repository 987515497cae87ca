pub mod Working
pub mod Rehearsed
pub mod Trims
