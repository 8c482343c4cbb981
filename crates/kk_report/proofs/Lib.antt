pub mod Blocks
pub mod Statuses
