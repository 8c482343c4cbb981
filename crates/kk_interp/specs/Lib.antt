pub mod BiPoly
pub mod Interpolation
pub mod Pair
pub mod State
pub mod Steps
pub mod Examples
