pub mod Answers
pub mod Delivery
pub mod Laws
pub mod Outcome
