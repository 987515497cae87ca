pub mod Placing
pub mod Supply
pub mod Answer
pub mod Last
