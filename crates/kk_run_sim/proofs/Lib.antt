pub mod Sims
pub mod Simulations
