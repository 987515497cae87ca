pub mod Methods
pub mod Requests
