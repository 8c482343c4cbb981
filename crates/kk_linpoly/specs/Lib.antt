pub mod LinPoly
pub mod LinPolyExamples
pub mod Storage
pub mod LinMap
pub mod Laws
pub mod Matrix
