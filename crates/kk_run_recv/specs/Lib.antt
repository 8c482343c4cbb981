pub mod Receiver
pub mod Recv
pub mod Report
