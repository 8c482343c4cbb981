mod Examples
pub mod Given
pub mod Matches
pub mod Requests
pub mod Rules
pub mod Taken
