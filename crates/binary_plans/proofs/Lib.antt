pub mod BothPlans
pub mod LeftPlans
pub mod LeftRule
pub mod RightPlans
pub mod RightRule
