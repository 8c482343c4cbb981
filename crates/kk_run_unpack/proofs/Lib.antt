pub mod Asking
pub mod Counted
pub mod Packed
pub mod Receiving
pub mod Reporting
pub mod Spanned
pub mod Unpacks
