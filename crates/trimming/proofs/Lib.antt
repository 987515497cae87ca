pub mod Needing
pub mod Ranks
pub mod Marks
pub mod Kept
pub mod Again
