pub mod Arguments
pub mod Commands
pub mod Places
pub mod Request
