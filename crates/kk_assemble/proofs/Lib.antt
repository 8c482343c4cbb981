pub mod Numbers
pub mod BitRows
pub mod Queues
pub mod Places
pub mod Words
pub mod AllMessages
pub mod Cuts
