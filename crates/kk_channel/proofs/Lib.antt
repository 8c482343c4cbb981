pub mod Words
pub mod Mixing
pub mod Injecting
pub mod Losses
