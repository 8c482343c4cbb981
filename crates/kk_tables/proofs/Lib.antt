pub mod WindowProducts
pub mod ByteImages
pub mod Chains
pub mod LookUps
