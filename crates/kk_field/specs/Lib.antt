pub mod Polynomial
pub mod Field
pub mod FieldExamples
pub mod Laws
pub mod Echelon
