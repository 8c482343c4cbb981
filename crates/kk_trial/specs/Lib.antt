pub mod Trial
pub mod TrialExamples
pub mod Laws
