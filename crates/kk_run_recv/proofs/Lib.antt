pub mod Logged
pub mod Receivers
pub mod Recvs
