pub mod Hosted
pub mod Kept
pub mod Acting
