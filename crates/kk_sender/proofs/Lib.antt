pub mod Datagrams
pub mod Frames
pub mod Lengths
pub mod Generations
