pub mod Division
pub mod DivisionExamples
pub mod Laws
