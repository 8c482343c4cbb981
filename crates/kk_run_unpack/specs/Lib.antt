pub mod Laws
pub mod Report
pub mod Spaces
pub mod Unpack
pub mod UnpackExamples
