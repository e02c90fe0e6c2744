pub mod Vectors
pub mod Honest
