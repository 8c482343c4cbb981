pub mod FaultText
pub mod Form
pub mod Request
