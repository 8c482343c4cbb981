pub mod Bases
pub mod Relays
pub mod Sends
pub mod Steps
pub mod Outcomes
