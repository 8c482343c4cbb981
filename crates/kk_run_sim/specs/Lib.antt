pub mod Sim
pub mod Simulation
