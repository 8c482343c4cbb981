pub mod FileBits
pub mod Messages
pub mod Bits
pub mod Laws
pub mod FileExamples
