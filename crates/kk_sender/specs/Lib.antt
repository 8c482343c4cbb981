pub mod Faults
pub mod SentFrames
pub mod LengthRule
pub mod Sending
pub mod Laws
pub mod SentExamples
