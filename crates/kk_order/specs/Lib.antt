pub mod Order
pub mod Refuses
pub mod Seed
