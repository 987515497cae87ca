pub mod Kinds
pub mod Powers
pub mod Counting
pub mod Residues
pub mod Remainders
