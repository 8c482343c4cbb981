pub mod PartSums
pub mod Pairs
pub mod States
