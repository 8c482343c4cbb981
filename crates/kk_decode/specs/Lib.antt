pub mod Solving
pub mod Offset
pub mod FixedMap
pub mod Laws
