pub mod Windows
pub mod WindowsLemmas
