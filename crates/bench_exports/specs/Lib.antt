pub mod Chains
pub mod Powers
pub mod Plans
pub mod Exports
