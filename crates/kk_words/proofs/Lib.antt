pub mod Addressing
pub mod Requests
