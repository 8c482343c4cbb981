pub mod Asking
pub mod Capturing
pub mod Packs
