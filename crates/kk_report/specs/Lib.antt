pub mod Block
pub mod Command
pub mod Refusal
pub mod Report
pub mod Status
