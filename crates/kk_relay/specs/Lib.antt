pub mod Relaying
pub mod RelayState
pub mod Progress
pub mod Laws
pub mod RelayExamples
pub mod FaultText
