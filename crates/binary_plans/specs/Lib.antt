pub mod LeftToRight
pub mod RightToLeft
