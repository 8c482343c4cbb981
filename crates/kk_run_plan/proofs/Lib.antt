pub mod Asking
pub mod Plans
