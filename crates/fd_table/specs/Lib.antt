pub mod Descriptors
pub mod Held
